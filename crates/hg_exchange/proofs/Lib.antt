pub mod MessageLaws
pub mod TakingLaws
