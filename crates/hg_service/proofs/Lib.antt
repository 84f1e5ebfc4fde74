pub mod OnLiterals
pub mod Worked
