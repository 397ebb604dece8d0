pub mod LossyLemmas
pub mod WriteLemmas
