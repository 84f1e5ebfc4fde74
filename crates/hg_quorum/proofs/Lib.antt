pub mod ReportLaws
pub mod QuorumLaws
pub mod ForkSightLaws
