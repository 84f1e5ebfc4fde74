pub mod Requests
pub mod Matching
pub mod Books
pub mod Laws
