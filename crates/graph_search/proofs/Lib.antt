pub mod SearchedLaws
pub mod SplitLemmas
pub mod AnewLemmas
