pub mod ChosenLemmas
pub mod MadeLemmas
