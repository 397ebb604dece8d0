pub mod PositionLemmas
pub mod LineLemmas
pub mod TakenLemmas
pub mod FailureLemmas
pub mod KnownLemmas
pub mod FollowLemmas
pub mod ValueLemmas
