pub mod Drops
pub mod Codes
pub mod Written
pub mod TreeSteps
pub mod Unique
pub mod LineWords
pub mod Lawful
