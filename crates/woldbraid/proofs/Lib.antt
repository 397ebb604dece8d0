pub mod AsBox
pub mod WriterBox
