pub mod LookLemmas
pub mod AheadLemmas
pub mod FindLemmas
pub mod LendLemmas
pub mod FieldsLemmas
pub mod ReadLemmas
pub mod LawLemmas
