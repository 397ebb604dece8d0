pub mod Commands
pub mod Targets
pub mod Requests
