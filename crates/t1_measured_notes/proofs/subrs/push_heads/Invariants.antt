use Rattle.std.proofs.Common.{◌≡◌, ◌++◌, false, drop}
use Rattle.t1_measured_notes.specs.UnusedByLine.{unused_by_line}
use Rattle.t1_run.specs.RunKeys.{has_number}
use Rattle.t1_measured_notes.proofs.subrs.push_heads.Given as goal

-- the notes so far, and those of the lines that are left
abbrev pub invariant-loop-line : goal.invariant-loop-line
invariant-loop-line l =
    l.notes.items ++ unused_by_line (has_number l.entered.keys) l.follows (drop l.line-index l.heads)
    ≡ l.fn.notes.items ++ unused_by_line (has_number l.entered.keys) false l.heads
