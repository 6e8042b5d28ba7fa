pub mod InsnSteps
pub mod CacheLaws
pub mod Calls
pub mod StartRegions
pub mod StackLaws
mod StartRows
pub mod StubLaws
mod StubRows
mod UntilRows
pub mod StubFound
