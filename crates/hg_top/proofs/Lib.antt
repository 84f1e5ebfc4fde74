pub mod KeepLaws
pub mod StormLaws
pub mod TellLaws
pub mod WorkLaws
