use Rattle.std.proofs.Common.{ℕ, ◌-◌, ◌≤◌, false, length}
use Rattle.t1_disassemble.specs.FilePlaced.{Stands}
use Rattle.t1_disassemble.specs.SegmentsRead.{segments_of}
use Rattle.t1_disassemble.proofs.places.byte_place.Given as goal

-- the byte stands where it does among the segments that are left
abbrev pub invariant-loop-found : goal.invariant-loop-found
invariant-loop-found l = record {
  stands : (place : ℕ) → Stands (length l.file - length l.rest) l.end l.begun (segments_of (length l.file) l.rest) l.left place → Stands 0 0 false (segments_of (length l.file) l.file) l.count place;
  within : length l.rest ≤ length l.file;
}

abbrev pub decreases-loop-found : goal.decreases-loop-found
decreases-loop-found l = length l.rest
