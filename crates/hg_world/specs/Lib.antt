pub mod World
pub mod Parts
pub mod Steps
pub mod Syncs
pub mod Laws
