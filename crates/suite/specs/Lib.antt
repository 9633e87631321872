pub mod Trials
pub mod Run
pub mod Headlines
pub mod Complete
