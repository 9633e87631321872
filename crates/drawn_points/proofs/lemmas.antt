pub mod Grids
pub mod Loops
