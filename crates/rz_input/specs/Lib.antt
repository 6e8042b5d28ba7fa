pub mod Calls
pub mod Fault
pub mod Grammar
pub mod Printed
pub mod Value
