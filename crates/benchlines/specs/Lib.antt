-- What the bench program's lines come to.
pub mod FirstBytes
pub mod Laws
pub mod Occurrences
pub mod Whole
