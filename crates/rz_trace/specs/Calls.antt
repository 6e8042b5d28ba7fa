pub mod Begun
pub mod Followed
pub mod Memo
pub mod Printing
