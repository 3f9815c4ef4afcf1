pub mod AgainLaws
pub mod Bridges
pub mod PlainLaws
