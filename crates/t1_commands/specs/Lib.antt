pub mod AnswerParts
pub mod AnswerTexts
pub mod Answering
pub mod Answers
pub mod Blocks
pub mod Commands
pub mod Lines
pub mod MadeCommands
