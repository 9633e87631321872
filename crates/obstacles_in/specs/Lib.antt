pub mod Obstacles
pub mod Words
pub mod Said
pub mod Faults
pub mod Format
pub mod Text
pub mod TextLaws
pub mod ObstaclesLaws
