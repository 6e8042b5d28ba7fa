-- Words of the contracts of inner calls.
pub mod Sound
pub mod Inside
pub mod Listed
pub mod Brought
pub mod Noted
