pub mod SkipLemmas
pub mod FailureLemmas
pub mod RecordLemmas
pub mod PlainLemmas
