pub mod Found
pub mod Named
pub mod Ordered
pub mod Placed
