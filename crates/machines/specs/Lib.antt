-- What the parts of the making of a machine say to each other, and to a table that is made of machines.
pub mod Letters
pub mod Fronts
pub mod Rows
