pub mod Upgraded
pub mod Spelling
