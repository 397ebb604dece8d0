pub mod Flag
pub mod Located
