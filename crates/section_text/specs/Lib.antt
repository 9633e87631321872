pub mod Words
pub mod Format
pub mod Text
pub mod Faults
pub mod Judged
pub mod Laws
pub mod Left
pub mod WordLaws
