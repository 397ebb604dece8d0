pub mod OpenArrays
pub mod Heads
pub mod Events
pub mod Written
pub mod Reading
