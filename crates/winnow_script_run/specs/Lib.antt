pub mod Marks
pub mod Needs
pub mod Script
pub mod RunState
pub mod Searching
pub mod WeakerSlices
pub mod Definite
