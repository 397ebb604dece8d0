pub mod OneOf
pub mod Take
pub mod TakeWhile
pub mod TakeUntil
pub mod Rest
pub mod Prompt
pub mod Run
