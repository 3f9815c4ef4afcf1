pub mod FramingLaws
pub mod PerformingLaws
pub mod VerdictLaws
