pub mod ReadingLaws
pub mod AroundLaws
