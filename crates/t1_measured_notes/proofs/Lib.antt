pub mod NoteFactLaws
pub mod Numbering
pub mod Reach
pub mod Unused
