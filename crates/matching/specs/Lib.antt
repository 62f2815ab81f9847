-- What is to be believed, in the order of docs/RULES.md; the laws of it stand under Laws.
pub mod Limits
pub mod Refusal
pub mod Words
pub mod Kinds
pub mod Occurrence
pub mod Tags
pub mod Machine
pub mod Slicing
pub mod Table
pub mod Stepping
pub mod Reading
pub mod Parts
pub mod Enough
pub mod Laws
