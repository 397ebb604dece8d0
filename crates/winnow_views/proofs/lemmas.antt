pub mod TokenLemmas
pub mod BitLemmas
pub mod BitOffsetLemmas
