pub mod Counts
pub mod Nesting
pub mod OfNames
pub mod OfSources
pub mod Rows
