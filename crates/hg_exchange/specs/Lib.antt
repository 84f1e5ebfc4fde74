pub mod Messages
pub mod Exchanges
pub mod Text
