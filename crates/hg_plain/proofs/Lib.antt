pub mod BallotLaws
pub mod FameSteps
pub mod ClosedLaws
pub mod PrefixLaws
pub mod OrderLaws
