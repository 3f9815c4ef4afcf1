use Rattle.std.proofs.Common.{◌≡◌, drop}
use Rattle.t1_extent.specs.Turns.{point_through}
use Rattle.t1_extent.proofs.turns.point_through.Given as goal

-- what is left of the moves makes the same of it
abbrev pub invariant-loop-by : goal.invariant-loop-by
invariant-loop-by l = point_through (drop l.by-index l.moves) l.last l.moved ≡ point_through l.moves l.last l.point
