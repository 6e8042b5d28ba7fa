pub mod Calls
pub mod Fault
pub mod Listing
pub mod Resolved
pub mod Sections
pub mod Symbols
pub mod Texts
