pub mod Registers
pub mod Aspects
pub mod Rules
pub mod Windows
pub mod Verdicts
pub mod Laws
pub mod Examples
