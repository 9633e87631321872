-- Lemmas that several proofs share.
pub mod Words
pub mod Numbers
pub mod Steps
pub mod ReadSoFar
pub mod Written
