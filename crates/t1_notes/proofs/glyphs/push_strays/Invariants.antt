use Rattle.std.proofs.Common.{◌≡◌, ◌++◌, false, drop}
use Rattle.t1_notes.specs.StraysByLine.{strays_by_line}
use Rattle.t1_notes.proofs.glyphs.push_strays.Given as goal

-- the notes so far, and those of the lines that are left
abbrev pub invariant-loop-line : goal.invariant-loop-line
invariant-loop-line l = l.notes.items ++ strays_by_line l.follows (drop l.line-index l.heads) ≡ l.fn.notes.items ++ strays_by_line false l.heads
