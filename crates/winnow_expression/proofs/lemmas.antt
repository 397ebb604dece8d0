pub mod ThenLemmas
pub mod TurnLemmas
pub mod LayerLemmas
pub mod AgreeingThenLemmas
pub mod AgreeingTurnLemmas
pub mod OneAnswerLemmas
