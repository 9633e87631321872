pub mod Commands
pub mod Values
pub mod Requests
pub mod Defaults
