pub mod Alike
pub mod Classes
pub mod EscapedLaws
pub mod Escaped
pub mod Fragments
pub mod HexUint
pub mod Lines
pub mod Numbers
