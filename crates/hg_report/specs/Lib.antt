pub mod Writes
pub mod Summary
pub mod Heads
