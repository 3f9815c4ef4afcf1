use Rattle.std.proofs.Common.{◌≡◌, drop}
use Rattle.t1_extent.specs.Turns.{segment_through}
use Rattle.t1_extent.proofs.turns.segment_through.Given as goal

-- what is left of the moves makes the same of it
abbrev pub invariant-loop-by : goal.invariant-loop-by
invariant-loop-by l = segment_through (drop l.by-index l.moves) l.last l.moved ≡ segment_through l.moves l.last l.segment
