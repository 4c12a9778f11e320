pub mod States
pub mod Model
pub mod Steps
pub mod Whole
pub mod Fence
