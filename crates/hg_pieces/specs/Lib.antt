pub mod Phrases
pub mod Pieces
pub mod Writes
