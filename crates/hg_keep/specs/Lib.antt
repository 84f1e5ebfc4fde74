pub mod Events
pub mod Keeping
pub mod Stops
pub mod Stores
pub mod Tasks
pub mod Text
