pub mod Differing
pub mod Secrets
