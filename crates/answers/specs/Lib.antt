-- What each answer says, as text.
pub mod Answers
pub mod Show
pub mod Laws
