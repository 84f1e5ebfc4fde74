pub mod Asking
pub mod Binding
pub mod Text
