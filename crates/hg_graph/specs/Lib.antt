pub mod Names
pub mod RowsWithRoom
pub mod Held
pub mod Added
