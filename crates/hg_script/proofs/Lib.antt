pub mod NameLaws
pub mod Numbers
pub mod OnLiterals
pub mod Spelled
mod Worked
