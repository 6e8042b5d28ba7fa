-- Lemmas that other crates cite.
pub mod Accepted
pub mod Conditions
pub mod HeaderList
pub mod Loads
pub mod PlainAccepted
pub mod PlainCells
pub mod Reading
pub mod Sound
pub mod Stamp
