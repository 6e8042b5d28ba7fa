pub mod Perm
pub mod Memory
pub mod Run
pub mod Word
pub mod Apart
pub mod Laws
