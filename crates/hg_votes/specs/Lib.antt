pub mod Tallies
pub mod Slots
pub mod Counting
pub mod Shared
