pub mod Classes
pub mod Sets
pub mod SetLaws
