pub mod LengthLemmas
pub mod NumberLemmas
pub mod LengthAndThenLemmas
pub mod FieldLemmas
pub mod JoinedLemmas
pub mod ByteLemmas
pub mod DeterminedFieldLemmas
