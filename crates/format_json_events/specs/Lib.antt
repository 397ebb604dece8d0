pub mod Blanks
pub mod Turns
pub mod Reading
pub mod Lengths
pub mod Stops
pub mod ValueEvents
