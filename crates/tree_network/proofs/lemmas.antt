pub mod Adding
pub mod Sums
pub mod Union
