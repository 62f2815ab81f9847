pub mod Entries
pub mod Parts
pub mod Reading
pub mod Joined
pub mod Laws
