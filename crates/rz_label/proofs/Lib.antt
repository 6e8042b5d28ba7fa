pub mod LabelLaws
pub mod SectionLaws
pub mod Unchanged
