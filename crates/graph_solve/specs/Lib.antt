pub mod Task
pub mod Fault
pub mod FirstLaws
pub mod Said
pub mod Accepted
pub mod JoinedLaws
