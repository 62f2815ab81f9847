-- The laws of the desk's definitions.
pub mod Layout
pub mod Rooms
pub mod Faults
pub mod Shared
pub mod Views
pub mod Good
pub mod TakeMany
pub mod Pieces
pub mod Exact
pub mod Apart
