pub mod Sections
pub mod Strokes
