-- The laws, each file by what it speaks of.
pub mod Steps
pub mod Rows
pub mod Walks
pub mod Outside
pub mod Readings
