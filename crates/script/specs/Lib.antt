-- What call a line of a replay script makes.
pub mod Words
pub mod Numbers
pub mod Bytes
pub mod Sets
pub mod Calls
pub mod Laws
