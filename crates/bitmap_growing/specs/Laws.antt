-- The laws of growing, each file by what it speaks of.
pub mod Numbers
pub mod Failing
pub mod Cells
pub mod Sowing
pub mod Settling
