pub mod DigitLaws
pub mod HashLaws
pub mod LineLaws
pub mod PartLaws
