pub mod GrowthLaws
pub mod ReadLaws
pub mod SafeLaws
