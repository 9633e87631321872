pub mod Concatenation
pub mod SetLaws
pub mod Choices
pub mod Trails
pub mod TrailLaws
pub mod Partitions
pub mod PartitionLaws
pub mod ChoiceLaws
