pub mod Cond
pub mod Laws
pub mod Word
