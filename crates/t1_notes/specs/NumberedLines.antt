-- The lines of a text, each with its number.
use Rattle.std.specs.Prelude.{ℕ, Bool, ◌+◌, List, [], ◌∷◌, drop}
use Rattle.std.specs.List.{before_first, position_or_len, prefix_len}
use Rattle.t1_frac.specs.Words.{is_blank}
use Rattle.t1_notes.specs.declared.line.Line.{Line}
use Rattle.t1_notes.specs.declared.note.Note.{Note}
use Rattle.t1_notes.specs.declared.note.NoteKind.{NoteKind}

-- profile, notes: lines with their numbers, of which the first has number n
abbrev pub numbered : ℕ → List (List ℕ) → List Line
numbered n [] = []
numbered n (l ∷ ls) = record { number = n; text = l } ∷ numbered (n + 1) ls

-- profile, notes: the lines before the first whose text passes a test
abbrev pub before : (List ℕ → Bool) → List Line → List Line
before test ls = before_first (λ l. test l.text) ls

-- profile, notes: the lines from the first on whose text passes a test
abbrev pub from : (List ℕ → Bool) → List Line → List Line
from test ls = drop (position_or_len (λ l. test l.text) ls) ls

-- profile, notes: the lines after the first whose text passes a test
abbrev pub lines_past : (List ℕ → Bool) → List Line → List Line
lines_past test ls = drop 1 (from test ls)

-- profile, notes: a note on the first byte of a line that isn't blank
abbrev pub note_on : NoteKind → Line → Note
note_on kind l = record { kind = kind; line = l.number; column = prefix_len is_blank l.text + 1 }
