-- Readings one after another over a bitmap table: that they find what the tags say, and are those of the whole-byte machine.
pub mod Readings
pub mod Laws
pub mod AsDemanded
pub mod AsWhole
pub mod Sample
