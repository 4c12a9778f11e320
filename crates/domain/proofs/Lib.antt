pub mod Writes
pub mod Places
pub mod Shorts
pub mod Starts
pub mod Steps
