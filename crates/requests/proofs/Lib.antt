pub mod ValueLaws
pub mod PassLaws
pub mod CommandLaws
