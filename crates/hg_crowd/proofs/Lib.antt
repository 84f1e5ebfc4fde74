pub mod MarkLaws
pub mod ListLaws
pub mod WorkLaws
pub mod CrowdLaws
pub mod EndLaws
pub mod PartyLaws
