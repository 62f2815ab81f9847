-- What a read outside the desk answers and leaves; what its parts do; the laws.
pub mod Outside
pub mod Refusals
pub mod Records
pub mod Noted
pub mod Walks
pub mod Laws
