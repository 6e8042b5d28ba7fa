-- Lemmas that other crates cite.
pub mod Word
pub mod Cond
