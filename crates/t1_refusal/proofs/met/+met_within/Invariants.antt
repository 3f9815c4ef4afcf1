use Rattle.t1_refusal.proofs.met.+met_within.Given as goal

abbrev pub decreases-met_within : goal.decreases-met_within
decreases-met_within g l = l.depth
