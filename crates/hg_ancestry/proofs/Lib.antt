pub mod HeldLaws
pub mod GrowLaws
pub mod UnionLaws
pub mod NewForkLaws
pub mod SeerLaws
pub mod ApartLaws
