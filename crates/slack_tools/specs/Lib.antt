pub mod Bounds
pub mod Text
pub mod SlackAnswer
pub mod Slack
pub mod Truth
pub mod ListedLaws
pub mod TruthLaws
