pub mod Ways
pub mod Totals
pub mod Steps
pub mod Parts
pub mod Levels
pub mod Choices
pub mod Pairs
