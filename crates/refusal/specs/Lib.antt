pub mod Told
pub mod Spelled
