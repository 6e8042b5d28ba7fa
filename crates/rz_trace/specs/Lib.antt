pub mod Calls
pub mod Fault
pub mod Grammar
pub mod Order
pub mod Printed
pub mod Traced
pub mod Value
