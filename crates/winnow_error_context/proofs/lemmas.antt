pub mod ContextTextLemmas
pub mod ContextLineLemmas
pub mod RefusedLemmas
