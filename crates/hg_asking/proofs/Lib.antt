pub mod AskLaws
pub mod LineLaws
pub mod ReaderLaws
