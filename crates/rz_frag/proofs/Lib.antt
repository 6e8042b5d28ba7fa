pub mod Follows
pub mod Simulated
pub mod Sized
