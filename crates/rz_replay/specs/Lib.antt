pub mod RunText
pub mod Verdict
