pub mod Quorum
pub mod Agreement
pub mod Late
