pub mod Parts
pub mod Names
pub mod Messages
pub mod Flags
pub mod Pointers
