pub mod Emitted
pub mod Calls
