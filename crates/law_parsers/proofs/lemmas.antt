pub mod AsciiFailureLemmas
pub mod FailureLemmas
