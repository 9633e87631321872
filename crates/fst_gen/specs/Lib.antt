pub mod Trees
pub mod Joins
pub mod Kept
pub mod Store
pub mod Prefix
pub mod Kinds
