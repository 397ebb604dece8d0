pub mod Texts
pub mod Replies
pub mod ReplyLaws
pub mod Exchange
