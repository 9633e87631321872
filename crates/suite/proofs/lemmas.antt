pub mod Told
pub mod Completeness
pub mod GraphCompleteness
pub mod ReduceCompleteness
pub mod ObstacleCompleteness
pub mod Complete
