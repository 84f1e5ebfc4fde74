pub mod FrontLaws
pub mod FrontSizes
pub mod Fronts
pub mod FrontsStand
pub mod NameLists
pub mod Reading
pub mod Spells
