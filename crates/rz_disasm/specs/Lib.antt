pub mod Registers
pub mod Operands
pub mod Names
pub mod Statements
pub mod Line
pub mod Calls
