pub mod Puts
pub mod Stays
pub mod Tables
pub mod Spares
pub mod Chains
pub mod Kept
pub mod Fenced
