-- Laws of these definitions, for the proofs.
pub mod Words
pub mod Numbers
pub mod Bytes
pub mod Sets
pub mod Calls
pub mod Lines
