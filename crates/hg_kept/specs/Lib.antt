pub mod Waiting
pub mod Published
pub mod Receiving
