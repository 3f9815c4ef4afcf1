use Rattle.std.proofs.Common.{◌≡◌, ◌++◌, drop}
use Rattle.t1_notes.specs.Notes.{late_notes}
use Rattle.t1_notes.proofs.glyphs.push_late.Given as goal

-- the notes so far, and those of the lines that are left
abbrev pub invariant-loop-line : goal.invariant-loop-line
invariant-loop-line l = l.notes.items ++ late_notes (drop l.line-index l.heads) ≡ l.fn.notes.items ++ late_notes l.heads
