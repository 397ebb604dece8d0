pub mod ByteContents
pub mod Hex
