pub mod Settings
pub mod Lines
pub mod Failures
pub mod Progress
pub mod Copying
pub mod Plain
