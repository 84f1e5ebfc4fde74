pub mod Flat
pub mod JoinedLaws
pub mod RowLaws
