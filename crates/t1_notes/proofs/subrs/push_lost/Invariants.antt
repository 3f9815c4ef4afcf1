use Rattle.std.proofs.Common.{◌≡◌, ◌++◌, drop}
use Rattle.t1_notes.specs.Notes.{lost_notes}
use Rattle.t1_notes.proofs.subrs.push_lost.Given as goal

-- the notes so far, and those of the lines that are left
abbrev pub invariant-loop-line : goal.invariant-loop-line
invariant-loop-line l = l.notes.items ++ lost_notes (drop l.line-index l.lines) ≡ l.fn.notes.items ++ lost_notes l.lines
