pub mod Layout
pub mod Order
pub mod NearPlan
pub mod Laws
pub mod Calls
