pub mod ScannedLemmas
pub mod WaitLemmas
pub mod LineLemmas
pub mod SinceLemmas
