pub mod Rows
pub mod Words
pub mod Turns
pub mod Room
pub mod Props
pub mod Running
