pub mod Readings
pub mod Simple
mod Worked
pub mod Turns
