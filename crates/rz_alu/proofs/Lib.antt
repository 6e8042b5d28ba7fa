pub mod BitLaws
pub mod WidthLaws
