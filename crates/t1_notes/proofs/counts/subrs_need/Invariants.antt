use Rattle.std.proofs.Common.{◌≡◌, drop, max}
use Rattle.t1_notes.specs.Notes.{subrs_need}
use Rattle.t1_notes.proofs.counts.subrs_need.Given as goal

-- the need so far, and that of the lines that are left
abbrev pub invariant-loop-line : goal.invariant-loop-line
invariant-loop-line l = max l.need (subrs_need (drop l.line-index l.heads)) ≡ subrs_need l.heads
