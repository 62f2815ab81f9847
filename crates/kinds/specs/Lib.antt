-- What the table of kinds and the fold table say.
pub mod Rows
pub mod Folding
pub mod Laws
