pub mod Verdict
pub mod Pictures
pub mod Upgrades
