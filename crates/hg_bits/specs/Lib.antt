pub mod Words
pub mod Rows
pub mod Masks
pub mod Lanes
pub mod Weights
