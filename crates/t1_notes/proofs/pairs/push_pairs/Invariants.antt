use Rattle.std.proofs.Common.{◌≡◌, ◌++◌, drop}
use Rattle.t1_notes.specs.Tables.{is_among_names}
use Rattle.t1_notes.specs.PairNotes.{lines_notes}
use Rattle.t1_notes.proofs.pairs.push_pairs.Given as goal

-- the notes so far, and those of the lines that are left
abbrev pub invariant-loop-line : goal.invariant-loop-line
invariant-loop-line l =
    l.notes.items ++ lines_notes (is_among_names l.names.keys) (drop l.line-index l.lines)
    ≡ l.fn.notes.items ++ lines_notes (is_among_names l.names.keys) l.lines
