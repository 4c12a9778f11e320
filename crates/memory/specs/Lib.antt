pub mod Bytes
pub mod Loans
