-- Words of the contracts of inner calls.
pub mod Linked
