pub mod QuorumLaws
pub mod LaterLaws
pub mod WitnessLaws
pub mod AgreeLaws
pub mod LateLaws
