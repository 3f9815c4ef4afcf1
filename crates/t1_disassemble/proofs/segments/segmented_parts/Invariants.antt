use Rattle.std.proofs.Common.{◌≡◌, ◌≤◌, length}
use Rattle.t1_disassemble.specs.SegmentsRead.{segments_of, parts_onto, no_parts}
use Rattle.t1_disassemble.proofs.segments.segmented_parts.Given as goal

-- the parts so far, and the segments that are left
abbrev pub invariant-loop-parts : goal.invariant-loop-parts
invariant-loop-parts l = record {
  parts : parts_onto l.parts (segments_of (length l.bytes) l.rest) ≡ parts_onto no_parts (segments_of (length l.bytes) l.bytes);
  within : length l.rest ≤ length l.bytes;
}

abbrev pub decreases-loop-parts : goal.decreases-loop-parts
decreases-loop-parts l = length l.rest
