pub mod Position
pub mod CharSpan
pub mod Failure
pub mod ParseErrorText
