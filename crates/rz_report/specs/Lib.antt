pub mod Stubs
pub mod Report
