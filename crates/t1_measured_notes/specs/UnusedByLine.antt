-- The notes on unused Subrs, as a loop over lines finds them.
use Rattle.std.specs.Prelude.{ℕ, Bool, List, [], ◌∷◌, ◌++◌}
use Rattle.t1_notes.specs.declared.line.Line.{Line}
use Rattle.t1_notes.specs.declared.note.Note.{Note}
use Rattle.t1_measured_notes.specs.MeasuredNotes.{is_unused, unused_note}

-- word, notes: the same notes, by whether the line before opens such a Subr
abbrev pub unused_by_line : (ℕ → Bool) → Bool → List Line → List Note
unused_by_line entered follows [] = []
unused_by_line entered follows (l ∷ ls) = unused_note entered follows l ++ unused_by_line entered (is_unused entered l.text) ls
