-- The laws of building.
pub mod Exact
pub mod Left
