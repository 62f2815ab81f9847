-- The laws, each file by what it speaks of.
pub mod Running
pub mod Noting
pub mod Beside
pub mod Places
pub mod Walking
pub mod Sleep
pub mod Parts
pub mod Blocks
pub mod Both
pub mod Starting
