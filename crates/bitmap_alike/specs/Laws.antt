-- How the theorems are shown.
pub mod Alone
pub mod Beside
