pub mod Calls
pub mod Fault
pub mod Function
pub mod Grammar
