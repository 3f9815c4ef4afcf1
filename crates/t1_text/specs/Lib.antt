pub mod Delimiters
pub mod LineEnds
pub mod Lines
pub mod Names
pub mod TokenLengths
pub mod Tokens
