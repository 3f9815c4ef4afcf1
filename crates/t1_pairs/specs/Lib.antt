pub mod Kerning
pub mod Sorted
