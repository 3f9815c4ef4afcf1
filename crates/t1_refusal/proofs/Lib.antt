pub mod MetLaws
pub mod TellingLaws
pub mod WordLaws
