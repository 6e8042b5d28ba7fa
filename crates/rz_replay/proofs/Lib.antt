mod RunTextRows
pub mod VerdictLaws
mod VerdictRows
