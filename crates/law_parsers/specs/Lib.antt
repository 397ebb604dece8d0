pub mod AsciiFailures
pub mod Failures
