pub mod TakenBitsLemmas
pub mod WidthTwoLemmas
