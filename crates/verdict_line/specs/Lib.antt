pub mod Verdicts
pub mod Judging
pub mod Truth
pub mod TruthLaws
pub mod UnreadLaws
