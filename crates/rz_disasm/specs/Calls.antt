pub mod Shown
pub mod Statement
