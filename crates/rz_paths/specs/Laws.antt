-- Lemmas that other crates cite.
pub mod Growing
pub mod Booleans
pub mod Listing
pub mod Passing
pub mod Plausible
