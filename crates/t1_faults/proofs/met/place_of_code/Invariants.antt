use Rattle.std.proofs.Common.{◌≡◌, ◌+◌, length}
use Rattle.std.specs.List.{position_or_len}
use Rattle.t1_faults.specs.GlyphRuns.{has_fault_code}
use Rattle.t1_faults.proofs.met.place_of_code.Given as goal

-- the faults passed, and the place among the rest
abbrev pub invariant-loop-fault : goal.invariant-loop-fault
invariant-loop-fault l = record {
  place : l.at + position_or_len (has_fault_code l.code) l.rest ≡ position_or_len (has_fault_code l.code) l.faults;
  count : l.at + length l.rest ≡ length l.faults;
}

abbrev pub decreases-loop-fault : goal.decreases-loop-fault
decreases-loop-fault l = length l.rest
