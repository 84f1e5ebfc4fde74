pub mod Work
pub mod Course
pub mod Writing
pub mod Keeps
pub mod Ends
pub mod Commands
pub mod Printing
