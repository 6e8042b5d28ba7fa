pub mod Pieces
pub mod Ordered
