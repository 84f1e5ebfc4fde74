pub mod LastLaws
pub mod MemberLaws
pub mod RuleLaws
mod WorkedHistory
mod Worked
