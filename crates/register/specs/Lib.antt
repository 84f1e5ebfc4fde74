pub mod Play
pub mod Replicas
