-- Laws of answers, for the proofs.
pub mod Listed
pub mod Said
pub mod Show
