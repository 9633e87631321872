pub mod ReadingLaws
pub mod SolveLaws
pub mod ReduceLaws
pub mod LiftLaws
