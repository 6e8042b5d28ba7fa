-- Words of the contracts of inner calls.
pub mod Links
pub mod Chains
pub mod Linked
