-- Lemmas that ghost members and other crates cite.
pub mod Chains
pub mod Paths
