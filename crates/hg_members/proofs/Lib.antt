pub mod Entries
pub mod Lawful
pub mod Refused
mod Worked
