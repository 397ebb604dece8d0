pub mod Trees
pub mod Nested
pub mod Answers
