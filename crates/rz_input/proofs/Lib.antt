pub mod LineLaws
pub mod PieceLaws
pub mod ReadLaws
pub mod RoundTrip
pub mod Readable
pub mod ValidLaws
