-- The laws of building a bitmap table that rest on others.
pub mod Left
