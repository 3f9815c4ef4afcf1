use Rattle.t1_extent.proofs.outline_reach.+moved_reach.Given as goal

abbrev pub decreases-moved_reach : goal.decreases-moved_reach
decreases-moved_reach g l = l.depth
