pub mod Lowest
pub mod Original
pub mod Alignment
pub mod HeaderBytes
pub mod Writable
pub mod NewHeaders
pub mod NewFile
pub mod ExtentLaws
