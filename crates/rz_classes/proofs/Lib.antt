pub mod LineLaws
pub mod RangeLaws
pub mod ReadLaws
