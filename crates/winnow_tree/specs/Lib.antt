pub mod TreeContents
pub mod Maps
pub mod Entries
pub mod Abbreviation
pub mod TreeText
