pub mod Lengths
pub mod Numerals
pub mod LengthAndThen
pub mod Fields
pub mod FieldBytes
pub mod BitFields
