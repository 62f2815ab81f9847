-- What the builder answers, and what it leaves.
pub mod Answers
pub mod Laws
