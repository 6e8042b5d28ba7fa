pub mod EffectRows
pub mod Iterations
pub mod Copies
pub mod Stores
