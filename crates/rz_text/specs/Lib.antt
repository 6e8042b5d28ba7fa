pub mod Calls
pub mod Fault
pub mod Lines
pub mod Number
pub mod Laws
