use Rattle.std.proofs.Common.{◌≡◌, ◌≤◌, length}
use Rattle.t1_disassemble.specs.Heads.{past_gap_in, past_gap}
use Rattle.t1_disassemble.proofs.heads.past_gap.Given as goal

-- the bytes before the rest are blanks and comments
abbrev pub invariant-loop-first : goal.invariant-loop-first
invariant-loop-first l = record {
  gap : past_gap_in l.in_comment l.rest ≡ past_gap l.bytes;
  shorter : length l.rest ≤ length l.bytes;
}

abbrev pub decreases-loop-first : goal.decreases-loop-first
decreases-loop-first l = length l.rest
