pub mod Dump
pub mod Listing
pub mod Generation
pub mod FileAnswer
pub mod Pruning
pub mod Graph
pub mod GraphAnswer
