pub mod CharacterLemmas
pub mod DigitLemmas
pub mod NthLineLemmas
pub mod PositionLemmas
pub mod SpanLemmas
