-- Which tags go through a state, what laying its map leaves, and the laws of both.
pub mod Through
pub mod Laid
pub mod Laws
