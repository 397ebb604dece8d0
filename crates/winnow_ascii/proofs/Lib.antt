pub mod Hex
pub mod lemmas
