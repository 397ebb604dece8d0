pub mod Mapped
pub mod Floats
