pub mod Mode
pub mod ModeLemmas
pub mod ModeText
pub mod Failures
pub mod FailureText
pub mod Or
pub mod Pick
