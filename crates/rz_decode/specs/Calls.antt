pub mod Decode
pub mod Views
