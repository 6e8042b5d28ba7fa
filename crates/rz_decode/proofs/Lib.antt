pub mod Bounds
pub mod Unfinished
pub mod Rows
