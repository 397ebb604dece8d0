pub mod FieldAhead
pub mod Looking
pub mod Finding
pub mod Lending
pub mod FieldState
pub mod Reading
