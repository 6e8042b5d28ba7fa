pub mod OpenLaws
pub mod PaddedLaws
pub mod PermLaws
pub mod PutLaws
pub mod RunLaws
pub mod WordLaws
