pub mod Positions
pub mod Excerpts
pub mod Styles
pub mod Exchanging
pub mod Recents
pub mod Watching
