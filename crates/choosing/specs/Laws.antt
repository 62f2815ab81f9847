-- The laws, each file by what it speaks of.
pub mod Choosing
pub mod Dealing
