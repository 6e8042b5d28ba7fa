pub mod Transfers
pub mod Cache
pub mod Observed
