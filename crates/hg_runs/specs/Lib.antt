pub mod Run
pub mod Honest
pub mod Safety
pub mod Further
pub mod Laws
