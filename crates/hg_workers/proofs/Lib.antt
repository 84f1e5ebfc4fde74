pub mod StateLaws
pub mod ElectionLaws
pub mod TurnLaws
pub mod LoopLaws
