pub mod Hops
pub mod Crossing
pub mod Exchange
pub mod Reached
pub mod DualityLemmas
