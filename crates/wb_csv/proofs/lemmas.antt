pub mod FeedLemmas
pub mod LineLemmas
pub mod ReadLemmas
pub mod DamageLemmas
pub mod CopiedLemmas
pub mod StartLemmas
pub mod LimitLemmas
pub mod PlainLemmas
