-- Lemmas that other crates cite.
pub mod Exactness
pub mod Verdicts
pub mod Filler
pub mod Filling
pub mod Prefixes
pub mod Rejoined
pub mod Room
pub mod Serving
