-- Lemmas that other crates cite.
pub mod Lines
pub mod Numbers
pub mod Places
pub mod Reading
pub mod Words
