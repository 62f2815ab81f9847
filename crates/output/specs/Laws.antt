pub mod Waiting
pub mod Decimal
