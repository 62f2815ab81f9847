-- What building answers and leaves, and when; and what the parts of the builder say to each other.
pub mod Building
pub mod Refusals
pub mod AsRules
pub mod Sliced
pub mod Shape
pub mod Props
pub mod Laws
