pub mod Bytes
pub mod Carry
pub mod Fields
pub mod Page
pub mod Products
pub mod Signs
pub mod Texts
pub mod Width
