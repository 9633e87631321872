pub mod Steps
pub mod LineWords
pub mod SectionLines
pub mod Spelled
pub mod Split
pub mod Located
pub mod Ends
