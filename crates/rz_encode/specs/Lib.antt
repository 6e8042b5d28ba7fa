pub mod Length
pub mod Laws
pub mod Calls
