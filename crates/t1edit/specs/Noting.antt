-- The notes on sources and on a kerning file.
use Rattle.std.specs.Prelude.{ℕ, Bool, not, ◌==◌, ◌||◌, List, ◌++◌, length}
use Rattle.t1_measured_notes.specs.MeasuredNotes.{all_notes}
use Rattle.t1_notes.specs.NoteTexts.{notes_text}
use Rattle.t1_notes.specs.PairNotes.{pair_notes}
use Rattle.t1_notes.specs.declared.note.Note.{Note}

-- profile, notes: whether there are some
abbrev pub are_some : List Note → Bool
are_some notes = not (length notes == 0)

-- profile, notes: the notes on the source of a file of this name, and those on a kerning file beside it, a line each
abbrev pub notes_on : List ℕ → List ℕ → List ℕ → List ℕ → List ℕ
notes_on kern pairs path source = notes_text path (all_notes source) ++ notes_text kern (pair_notes source pairs)

-- profile, notes: whether a source, or a kerning file beside it, has notes
abbrev pub has_notes : List ℕ → List ℕ → Bool
has_notes pairs source = are_some (all_notes source) || are_some (pair_notes source pairs)
