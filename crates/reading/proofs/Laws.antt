-- The laws that rest on others of specs/Laws, each file by what it speaks of, as there.
pub mod Answers
pub mod Outside
