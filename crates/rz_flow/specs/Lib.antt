pub mod Flow
pub mod Calls
pub mod Laws
