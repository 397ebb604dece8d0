pub mod Positions
pub mod Lines
pub mod Failures
pub mod Copying
