pub mod AnswerLemmas
pub mod ChoiceLemmas
pub mod ClimbLemmas
pub mod CoverLemmas
pub mod OperandLemmas
pub mod OperatorLemmas
pub mod StreamLemmas
