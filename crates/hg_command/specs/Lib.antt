pub mod Line
pub mod Table
pub mod Asked
