pub mod Codes
pub mod CommandLine
pub mod Topics
