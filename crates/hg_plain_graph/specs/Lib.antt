pub mod Tables
pub mod By
pub mod Held
pub mod Twins
