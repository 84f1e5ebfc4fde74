pub mod SelfLinks
pub mod Kept
pub mod Pairs
pub mod Lines
