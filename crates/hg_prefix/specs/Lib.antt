pub mod Standing
pub mod Chains
pub mod Laws
