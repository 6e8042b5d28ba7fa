-- Lemmas that other crates cite.
pub mod Sorted
pub mod Members
pub mod Places
