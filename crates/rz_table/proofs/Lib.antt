pub mod Changed
pub mod Covered
pub mod Profile2Classes
pub mod ProfileClasses
