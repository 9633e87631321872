pub mod EdgeBound
pub mod Beginning
