-- The laws, each file by what it speaks of.
pub mod Levels
pub mod Maps
pub mod Children
pub mod Steps
pub mod Ways
pub mod Moves
pub mod Built
pub mod States
pub mod Loops
