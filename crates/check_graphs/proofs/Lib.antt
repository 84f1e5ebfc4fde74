mod CarryLaws
mod MadeLaws
mod MomentLaws
mod OrderLaws
mod TakeLaws
