pub mod MeasuredNotes
pub mod NoteFacts
pub mod UnusedByLine
