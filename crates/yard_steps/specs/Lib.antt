pub mod States
pub mod Model
pub mod Steps
pub mod Calls
pub mod Whole
pub mod Fence
pub mod Printed
