use Rattle.std.proofs.Common.{◌≡◌, ◌≤◌, ◌<◌, ℕ, List, length}
use Rattle.t1_disassemble.specs.InPlace.{tailless, AreBehind}
use Rattle.t1_disassemble.specs.SegmentsRead.{segments_of, parts_onto}
use Rattle.t1_disassemble.proofs.InPlaceLaws.{tailed}
use Rattle.t1_disassemble.proofs.segments.text_left.Given as goal

-- the tail so far, and the segments that are left
abbrev pub invariant-loop-tail : goal.invariant-loop-tail
invariant-loop-tail l = record {
  parts : (clear coded : List ℕ) → 0 < length coded → parts_onto (tailed clear coded l.tail.items) (segments_of l.total l.rest) ≡ parts_onto (tailless clear coded) (segments_of l.total l.bytes);
  behind : AreBehind (segments_of l.total l.rest) → AreBehind (segments_of l.total l.bytes);
  within : length l.rest ≤ l.total;
}

abbrev pub decreases-loop-tail : goal.decreases-loop-tail
decreases-loop-tail l = length l.rest
