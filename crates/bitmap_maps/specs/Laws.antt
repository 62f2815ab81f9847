-- The laws, each file by what it speaks of.
pub mod Bits
pub mod Masks
pub mod Vectors
pub mod Laying
pub mod Laid
pub mod Own
pub mod Counting
