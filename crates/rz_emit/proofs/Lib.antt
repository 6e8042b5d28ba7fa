pub mod Beside
pub mod Offsets
pub mod Addresses
pub mod Bytes
pub mod Chosen
