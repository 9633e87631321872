pub mod Trees
pub mod Grid
pub mod Plot
