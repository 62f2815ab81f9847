-- What a tag set is, and what reading one answers.
pub mod Grammar
pub mod Answer
pub mod Refusals
pub mod AsRules
pub mod Lying
pub mod Laws
pub mod Cutting
