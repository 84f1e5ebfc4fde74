mod WayLaws
mod HashedLaws
mod FoundLaws
pub mod NextLaws
pub mod HeldLaws
mod NamedLaws
