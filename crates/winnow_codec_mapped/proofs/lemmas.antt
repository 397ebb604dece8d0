pub mod Floats
pub mod Mapped
