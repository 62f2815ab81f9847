-- The laws, each file by what it speaks of.
pub mod Rows
pub mod Folding
