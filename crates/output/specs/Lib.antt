-- What is put into a buffer, and the decimal digits of a number.
pub mod Buffer
pub mod Decimal
pub mod Laws
