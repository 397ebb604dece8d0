-- The definitions of numbers and strings.
pub use Rattle.format_json_scalars.specs.Numbers
pub use Rattle.format_json_scalars.specs.NumberAnswers
pub use Rattle.format_json_scalars.specs.Needing
pub use Rattle.format_json_scalars.specs.Strings
pub use Rattle.format_json_scalars.specs.StringAnswers
pub use Rattle.format_json_scalars.specs.Quoting
-- Values and tokens.
pub mod Language
pub mod Founds
pub mod Damage
pub mod Begun
pub mod SameValues
pub mod Answers
pub mod Documents
pub mod Tokens
pub mod TokenAnswers
pub mod TokenLaws
pub mod Scan
pub mod Reading
pub mod Causes
pub mod Writing
pub mod Appending
