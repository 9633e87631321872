pub mod Kept
pub mod Firsts
pub mod Within
pub mod LeastTotal
