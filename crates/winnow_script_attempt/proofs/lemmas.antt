pub mod LookLemmas
pub mod NeedleLemmas
pub mod AttemptLemmas
pub mod BegunLemmas
pub mod FittingLemmas
pub mod SettledLemmas
pub mod CursorLemmas
