pub mod Words
pub mod Fronts
pub mod Numbers
pub mod Lines
pub mod LineLaws
pub mod Left
pub mod Texts
