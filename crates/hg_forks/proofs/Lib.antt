pub mod SelfLaws
pub mod LineLaws
pub mod WatchLaws
