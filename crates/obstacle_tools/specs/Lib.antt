pub mod Reading
pub mod Around
pub mod Truth
pub mod TruthLaws
