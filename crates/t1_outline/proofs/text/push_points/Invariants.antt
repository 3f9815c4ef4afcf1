use Rattle.std.proofs.Common.{◌≡◌, ◌++◌, take, flat_map}
use Rattle.t1_outline.specs.Text.{point_text}
use Rattle.t1_outline.proofs.text.push_points.Given as goal

-- the points so far, after what was there
abbrev pub invariant-loop-point : goal.invariant-loop-point
invariant-loop-point l = l.text.items ≡ l.fn.text.items ++ flat_map point_text (take l.point-index l.points)
