pub mod Draft
pub mod Printing
