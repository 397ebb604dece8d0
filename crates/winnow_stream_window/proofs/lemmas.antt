pub mod PartLemmas
pub mod WindowLemmas
