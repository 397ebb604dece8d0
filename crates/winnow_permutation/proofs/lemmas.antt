pub mod ContinuedLemmas
pub mod TurnLemmas
pub mod DeterminedLemmas
