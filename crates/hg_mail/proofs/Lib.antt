pub mod ListLaws
pub mod MessageLaws
pub mod CountLaws
pub mod PortLaws
