-- Lemmas that other crates cite.
pub mod Measured
pub mod Greatest
