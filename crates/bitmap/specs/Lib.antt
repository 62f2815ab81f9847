-- The states level by level, their slots, and the step over any run of numbers; then the laws.
pub mod Levels
pub mod Slots
pub mod Steps
pub mod Ways
pub mod Moves
pub mod Laws
