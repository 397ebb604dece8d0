pub mod KnownLemmas
pub mod FeedLemmas
pub mod CopyLemmas
pub mod DamageLemmas
pub mod CopiedLemmas
pub mod StartLemmas
