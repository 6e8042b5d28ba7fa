pub mod Lists
pub mod Arena
pub mod Calls
pub mod Laws
