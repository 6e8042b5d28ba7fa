pub mod ByteLaws
pub mod SignLaws
