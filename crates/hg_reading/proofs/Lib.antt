pub mod Enough
pub mod LineLaws
pub mod WalkLaws
pub mod PayloadLaws
