pub mod Stops
pub mod Registers
pub mod Arithmetic
pub mod Branches
pub mod Widths
pub mod Accesses
pub mod Executed
pub mod Laws
