-- Lemmas that other crates cite.
pub mod OneForm
pub mod FormStands
pub mod Registers
pub mod Named
