pub mod Checking
pub mod Chunks
