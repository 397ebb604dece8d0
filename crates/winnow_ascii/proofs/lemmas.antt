pub mod EscapedLemmas
pub mod EscapedOnceLemmas
pub mod NumberLemmas
pub mod OneAnswerLemmas
