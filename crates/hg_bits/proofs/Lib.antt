pub mod WordLaws
pub mod MaskLaws
pub mod RowLaws
pub mod StakeLaws
