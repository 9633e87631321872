pub mod Steps
pub mod Outcome
pub mod Sound
pub mod Complete
pub mod Whole
