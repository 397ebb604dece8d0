pub mod OwnLemmas
pub mod AgreeingLemmas
