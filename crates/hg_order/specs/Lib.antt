pub mod Counted
pub mod Famous
pub mod Round
pub mod Swept
pub mod Timers
pub mod Lined
