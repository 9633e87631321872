pub mod Gathers
pub mod GatherLaws
