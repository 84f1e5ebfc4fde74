pub mod StandingLaws
pub mod KeepLaws
pub mod PlaceLaws
pub mod ByRowLaws
pub mod CutLaws
pub mod SeenLaws
pub mod WeightLaws
