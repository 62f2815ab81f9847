-- A block of bytes walked by the parts of a layout.
pub mod Running
pub mod Noting
pub mod Walking
pub mod Sleep
pub mod Parts
pub mod Laws
