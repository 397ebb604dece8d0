pub mod Characters
pub mod InlineTexts
pub mod Numbers
