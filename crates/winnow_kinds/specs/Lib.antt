pub mod TextContents
pub mod LossyText
pub mod Escapes
