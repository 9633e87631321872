pub mod DrawnList
pub mod Points
pub mod DistinctList
pub mod StpPoints
