pub mod First
pub mod FirstLaws
pub mod Names
pub mod Signed
pub mod View
pub mod Laws
