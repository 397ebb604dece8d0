pub mod Printing
pub mod Raw
