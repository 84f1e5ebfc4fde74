mod ShowLaws
mod ProveLaws
mod Names
mod Steps
