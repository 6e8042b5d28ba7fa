-- Lemmas that other crates cite.
pub mod Heap
pub mod Answers
pub mod Alike
