pub mod Judging
pub mod Check
pub mod Truth
pub mod CheckLaws
pub mod Pictures
pub mod Plot
pub mod Upgrade
