pub mod Argument
pub mod Payload
pub mod Table
pub mod Script
pub mod Lawful
pub mod Words
pub mod Text
