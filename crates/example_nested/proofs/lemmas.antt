pub mod TreeLemmas
pub mod GrammarLemmas
pub mod AnswerLemmas
