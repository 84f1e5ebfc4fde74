pub mod Dice
pub mod Exit
pub mod Outcomes
pub mod Troubles
