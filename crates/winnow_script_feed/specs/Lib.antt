pub mod Inputs
pub mod Reach
pub mod NamedMarks
pub mod ToldAnswers
pub mod JoinedInput
pub mod Feeding
pub mod Waits
pub mod SameWaiting
