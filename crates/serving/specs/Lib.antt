-- What the bench program writes, and when.
pub mod Lines
pub mod Serving
pub mod Laws
