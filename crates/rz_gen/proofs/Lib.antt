pub mod Pieces
pub mod Lengths
pub mod Accepted
pub mod Rows
