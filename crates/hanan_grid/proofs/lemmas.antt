pub mod Found
pub mod GraphFaults
pub mod Readings
pub mod Rows
pub mod Spans
pub mod Sorting
pub mod Stretches
