pub mod Elections
pub mod Held
pub mod Rounds
