-- The tags of one kind among those of a set: which they are, and what a vector over them is over the whole set.
pub mod Choosing
pub mod Dealing
pub mod Laws
