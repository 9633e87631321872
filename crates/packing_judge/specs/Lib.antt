pub mod Bound
pub mod Outcome
pub mod Proposed
