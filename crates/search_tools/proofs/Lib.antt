pub mod AnswerLaws
pub mod SearchedLaws
pub mod SearchLaws
pub mod JoinLaws
pub mod NetworkLaws
pub mod ShorterLaws
