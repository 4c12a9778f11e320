pub mod Cuts
pub mod Weave
pub mod Lending
