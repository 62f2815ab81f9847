-- The reading over any run of numbers, and what its code says of a byte; then the laws.
pub mod Reading
pub mod Outside
pub mod Rows
pub mod Walks
pub mod Laws
pub mod Exact
