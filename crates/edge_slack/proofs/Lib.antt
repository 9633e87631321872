pub mod EdgeBoundLemmas
pub mod BeginningLemmas
pub mod RequiredLemmas
