pub mod Writer
pub mod Choose
pub mod Length
