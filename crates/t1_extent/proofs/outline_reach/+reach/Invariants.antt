use Rattle.std.proofs.Common.{◌+◌, ◌*◌}
use Rattle.t1_extent.proofs.outline_reach.+reach.Given as goal

abbrev pub decreases-reach_at : goal.decreases-reach_at
decreases-reach_at g l = 2 * l.depth + 1

abbrev pub decreases-parts_reach : goal.decreases-parts_reach
decreases-parts_reach g l = 2 * l.depth
