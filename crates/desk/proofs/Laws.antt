-- The laws that rest on others of specs/Laws, each file by what it speaks of, as there.
pub mod Views
pub mod Good
pub mod Exact
pub mod Apart
pub mod Pieces
