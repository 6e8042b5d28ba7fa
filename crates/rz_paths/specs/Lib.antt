pub mod Sets
pub mod Program
pub mod Walks
pub mod Bodies
pub mod Returns
pub mod Levels
pub mod Calls
pub mod Laws
