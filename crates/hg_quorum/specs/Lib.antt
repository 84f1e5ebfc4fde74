pub mod Members
pub mod Sight
pub mod Report
