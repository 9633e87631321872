pub mod Sets
pub mod Ends
pub mod Splits
pub mod Distinct
pub mod Merging
pub mod Packing
