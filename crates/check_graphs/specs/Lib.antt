pub mod Alike
pub mod Made
pub mod Moments
pub mod Orders
pub mod Published
