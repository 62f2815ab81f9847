-- The laws of building a bitmap table.
pub mod Exact
pub mod Left
