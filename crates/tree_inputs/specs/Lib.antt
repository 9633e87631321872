pub mod Files
pub mod GenerationFaults
pub mod Generation
pub mod Pruning
pub mod Lists
