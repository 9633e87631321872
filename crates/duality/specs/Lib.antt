pub mod Duality
pub mod AgreeingLaws
