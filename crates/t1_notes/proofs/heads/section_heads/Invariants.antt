use Rattle.std.proofs.Common.{◌≡◌, ◌++◌, false, drop}
use Rattle.t1_notes.specs.HeadsByLine.{heads_by_line}
use Rattle.t1_notes.proofs.heads.section_heads.Given as goal

-- the lines so far, and those that are found from here on
abbrev pub invariant-loop-line : goal.invariant-loop-line
invariant-loop-line l = l.found.items ++ heads_by_line l.section l.in_entry (drop l.line-index l.lines) ≡ heads_by_line l.section false l.lines
