pub mod Leading
pub mod Passing
pub mod Beginning
mod Simple
