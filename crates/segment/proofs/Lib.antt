pub mod Blocks
pub mod Bounds
