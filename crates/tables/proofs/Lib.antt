pub mod Seen
pub mod Machines
pub mod Judging
pub mod OnePart
pub mod Held
pub mod Answers
pub mod Laws
