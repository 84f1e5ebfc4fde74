pub mod Showing
pub mod Proving
pub mod Text
