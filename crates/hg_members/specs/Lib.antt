pub mod MemberFile
pub mod Text
