pub mod Crowd
pub mod Workers
pub mod Party
pub mod Laws
