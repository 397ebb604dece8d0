pub mod ByteLemmas
pub mod TokenLemmas
pub mod GatheredLemmas
