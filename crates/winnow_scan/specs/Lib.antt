pub mod Scanning
pub mod Waiting
pub mod Line
