pub mod Flags
pub mod Crossing
pub mod Exchange
pub mod Growing
pub mod Shortest
pub mod Totals
pub mod Rows
