-- Laws that rest on those of specs/Laws.
pub mod Laws
