pub mod Details
pub mod Failing
pub mod GlyphFailures
pub mod Machine
