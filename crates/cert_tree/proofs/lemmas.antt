pub mod Lifting
pub mod Places
pub mod Reached
pub mod WayLengths
pub mod Ways
