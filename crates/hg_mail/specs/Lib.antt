pub mod Messages
pub mod Rule
pub mod Count
pub mod Mailboxes
