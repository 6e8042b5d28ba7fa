pub mod Sequence
pub mod Places
pub mod Code
pub mod Generated
