use Rattle.std.proofs.Common.{◌≡◌, ◌++◌, drop}
use Rattle.t1_notes.specs.Notes.{plain_notes}
use Rattle.t1_notes.proofs.subrs.push_plain.Given as goal

-- the notes so far, and those of the lines that are left
abbrev pub invariant-loop-line : goal.invariant-loop-line
invariant-loop-line l = l.notes.items ++ plain_notes (drop l.line-index l.heads) ≡ l.fn.notes.items ++ plain_notes l.heads
