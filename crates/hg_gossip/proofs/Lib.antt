pub mod SeenLaws
pub mod TakeLaws
pub mod RowLaws
pub mod AloneLaws
pub mod HandLaws
pub mod TakingLaws
pub mod KnownLaws
pub mod RefusalLaws
