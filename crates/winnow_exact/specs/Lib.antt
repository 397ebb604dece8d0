pub mod Exact
pub mod Languages
pub mod Nested
