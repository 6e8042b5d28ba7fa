-- Lemmas that other crates cite.
pub mod Extended
pub mod ProfileEmits
