pub mod MoreLemmas
pub mod PairLemmas
pub mod PlaceLemmas
pub mod ScriptLemmas
pub mod StepLemmas
pub mod AnswerStepLemmas
