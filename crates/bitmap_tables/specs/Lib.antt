-- What building a bitmap table answers and leaves, and when.
pub mod Building
pub mod Refusals
pub mod Laws
