pub mod Expressions
pub mod Steps
pub mod Reading
pub mod Grammar
