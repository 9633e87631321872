pub mod BeginningLaws
pub mod BoundsLemmas
pub mod GridLemmas
pub mod SlackLaws
