pub mod Positions
pub mod Lines
pub mod Failures
pub mod Faults
pub mod Taking
pub mod Printing
pub mod Whole
