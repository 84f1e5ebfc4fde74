pub mod Applied
pub mod Account
pub mod Laws
