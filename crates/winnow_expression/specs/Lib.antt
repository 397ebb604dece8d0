pub mod Levels
pub mod Powers
pub mod Unary
pub mod Then
pub mod Found
pub mod Turns
pub mod Expression
pub mod Agreeing
