pub mod Layout
pub mod Few
pub mod Choice
pub mod Lending
