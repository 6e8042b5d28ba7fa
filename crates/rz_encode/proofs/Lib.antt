pub mod Written
pub mod RexByte
pub mod Counted
pub mod Tried
pub mod ByChoice
pub mod Backward
pub mod Lengths
