pub mod Handles
pub mod Calls
pub mod WriterHandles
pub mod Writing
