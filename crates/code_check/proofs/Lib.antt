pub mod Scan
pub mod Framing
pub mod Lawfully
pub mod Meanings
mod Worked
