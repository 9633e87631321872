pub mod Coordinates
pub mod Marks
pub mod Unique
pub mod LineWords
pub mod Lawful
