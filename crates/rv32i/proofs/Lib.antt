mod Rows
mod Twos
mod Words
mod Formed
mod Remade
mod Groups
pub mod Held
mod Below32
mod Fitting
mod Refused
pub mod Hex
