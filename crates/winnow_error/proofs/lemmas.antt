pub mod BareLemmas
pub mod PickLemmas
