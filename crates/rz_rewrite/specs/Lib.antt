pub mod Fragments
pub mod Rewritten
pub mod Reach
pub mod Refusals
pub mod Calls
pub mod Laws
