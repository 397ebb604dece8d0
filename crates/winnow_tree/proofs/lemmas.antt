pub mod AbbreviationLemmas
pub mod EntryLemmas
pub mod MapLemmas
pub mod TreeTextLemmas
