pub mod KnownLemmas
pub mod ExcerptLemmas
pub mod ExchangeLemmas
pub mod RecentLemmas
