-- The notes on lines that belong to no glyph, as a loop over lines finds them.
use Rattle.std.specs.Prelude.{ℕ, Bool, if◌then◌else◌, List, [], ◌∷◌, ◌++◌}
use Rattle.t1_notes.specs.declared.line.Line.{Line}
use Rattle.t1_notes.specs.declared.note.Note.{Note}
use Rattle.t1_notes.specs.Notes.{is_bare, is_stray, stray_note}

-- word, notes: whether a stray line is the nearest one after a line
abbrev pub stray_after : Bool → List ℕ → Bool
stray_after follows l = if is_bare l then follows else is_stray l

-- word, notes: the same notes, by whether the nearest line before is stray
abbrev pub strays_by_line : Bool → List Line → List Note
strays_by_line follows [] = []
strays_by_line follows (l ∷ ls) = stray_note follows l ++ strays_by_line (stray_after follows l.text) ls
