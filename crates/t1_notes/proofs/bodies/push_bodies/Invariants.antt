use Rattle.std.proofs.Common.{◌≡◌, ◌++◌, [], drop}
use Rattle.t1_notes.specs.Kept.{kept_of_tokens, notes_by_line}
use Rattle.t1_notes.proofs.bodies.push_bodies.Given as goal

-- the notes so far, and those of the lines that are left
abbrev pub invariant-loop-line : goal.invariant-loop-line
invariant-loop-line l =
    l.notes.items ++ notes_by_line l.kept (drop l.line-index l.lines) ≡ l.fn.notes.items ++ notes_by_line (kept_of_tokens []) l.lines
