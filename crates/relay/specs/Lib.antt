pub mod Exchanges
pub mod Steps
pub mod Moments
pub mod Relaying
pub mod Top
pub mod Words
