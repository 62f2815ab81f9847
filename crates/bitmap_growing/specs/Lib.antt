-- The table while it grows, and the laws of growing.
pub mod Growing
pub mod Laws
