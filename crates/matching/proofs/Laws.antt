-- The laws that rest on others of specs/Laws, each file by what it speaks of, as there.
pub mod Prefixes
pub mod Vectors
pub mod Readings
pub mod AnyTable
pub mod Dealt
pub mod OnePart
pub mod Layouts
pub mod AnyPlace
pub mod Parts
pub mod Counting
pub mod States
pub mod AsRules
