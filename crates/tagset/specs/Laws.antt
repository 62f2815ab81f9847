-- The laws of the definitions, each file by what it speaks of.
pub mod Entries
pub mod Distinct
pub mod Exact
pub mod Places
pub mod Lent
