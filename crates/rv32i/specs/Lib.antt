pub mod Fields
pub mod Causes
pub mod Table
pub mod Listing
pub mod Decoded
pub mod Encoded
pub mod Laws
pub mod Text
