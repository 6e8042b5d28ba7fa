pub mod LineLaws
mod RowTexts
