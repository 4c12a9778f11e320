pub mod Said
pub mod Performed
pub mod Views
pub mod Holds
