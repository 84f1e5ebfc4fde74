pub mod MadeLaws
mod Worked
