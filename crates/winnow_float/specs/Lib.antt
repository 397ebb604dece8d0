pub mod Marks
pub mod IfNext
pub mod Word
pub mod FloatText
pub mod Float
