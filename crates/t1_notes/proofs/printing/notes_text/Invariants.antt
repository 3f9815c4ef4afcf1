use Rattle.std.proofs.Common.{◌≡◌, take}
use Rattle.t1_notes.specs.NoteTexts.{notes_text}
use Rattle.t1_notes.proofs.printing.notes_text.Given as goal

-- the lines of the notes so far
abbrev pub invariant-loop-note : goal.invariant-loop-note
invariant-loop-note l = l.text.items ≡ notes_text l.file (take l.note-index l.notes)
