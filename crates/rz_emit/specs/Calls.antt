pub mod Lookup
pub mod Lengths
