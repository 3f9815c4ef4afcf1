use Rattle.std.proofs.Common.{drop}
use Rattle.t1_extent.proofs.Turning.{each_through}
use Rattle.t1_extent.proofs.Reaching.{Leads}
use Rattle.t1_extent.proofs.turns.segments_through.Given as goal

-- how far the segments so far reach, moved; those that are left make the whole
abbrev pub invariant-loop-segment : goal.invariant-loop-segment
invariant-loop-segment l = Leads l.reached (each_through l.moves l.last (drop l.segment-index l.segments)) (each_through l.moves l.last l.segments)
