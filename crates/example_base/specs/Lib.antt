pub mod Driving
pub mod Trouble
