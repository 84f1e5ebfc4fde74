pub mod Listed
pub mod Tabled
pub mod ByRow
pub mod Cut
