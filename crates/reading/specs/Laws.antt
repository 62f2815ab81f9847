-- The laws, each file by what it speaks of.
pub mod Records
pub mod Noted
pub mod Walks
pub mod Blocks
pub mod Answers
pub mod Outside
