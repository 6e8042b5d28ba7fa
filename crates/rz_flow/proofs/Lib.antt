pub mod Places
pub mod Linking
pub mod Walks
pub mod Reaching
