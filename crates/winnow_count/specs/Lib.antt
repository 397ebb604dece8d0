pub mod Accumulation
pub mod AccumulationLaws
pub mod CountRange
pub mod Reading
