pub mod Stamp
pub mod Paged
