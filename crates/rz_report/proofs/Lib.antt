pub mod DebloatLaws
pub mod JsonTexts
pub mod ReportRows
pub mod StubCounts
