pub mod PayLaws
pub mod BookLaws
pub mod OrderLaws
pub mod HasCome
