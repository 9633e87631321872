pub mod Parts
pub mod Joined
pub mod OneFault
pub mod GraphVerdicts
