pub mod RequestLaws
pub mod BookLaws
