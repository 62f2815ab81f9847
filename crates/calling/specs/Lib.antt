-- What each call of a script does, and what it answers.
pub mod Calls
pub mod Laws
