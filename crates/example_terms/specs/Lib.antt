pub mod Layers
pub mod Terms
