pub mod Sets
pub mod Samples
pub mod BuiltSample
