pub mod Input
pub mod World
pub mod Heap
pub mod Answer
pub mod Calls
pub mod Laws
