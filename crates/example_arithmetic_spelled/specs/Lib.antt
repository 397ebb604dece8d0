pub mod Expressions
pub mod Steps
