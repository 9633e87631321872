pub mod Blocked
pub mod Grid
pub mod Whole
pub mod Fault
pub mod Said
pub mod Text
pub mod Crossing
pub mod ReadBack
