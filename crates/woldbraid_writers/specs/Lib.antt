pub mod Codes
pub mod Drafts
pub mod Texts
pub mod Records
pub mod Replies
pub mod WholeReplies
pub mod Lending
pub mod WriterCalls
