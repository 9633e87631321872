pub mod RowLending
pub mod ListLaws
