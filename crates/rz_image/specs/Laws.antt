-- Lemmas that other crates cite.
pub mod Puts
pub mod Alike
pub mod Cells
pub mod Zeros
pub mod Find
pub mod Run
pub mod Turns
pub mod Parts
