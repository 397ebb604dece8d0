pub mod MessageLemmas
pub mod NameLemmas
pub mod PartLemmas
pub mod PointerLemmas
