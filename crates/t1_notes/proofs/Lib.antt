pub mod Naming
pub mod NoteFactLaws
pub mod Telling
