pub mod FirstLaws
pub mod DecisionLaws
pub mod ShareLaws
