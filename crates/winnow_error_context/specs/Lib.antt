pub mod Explanation
pub mod ContextText
pub mod ContextDebug
pub mod Line
