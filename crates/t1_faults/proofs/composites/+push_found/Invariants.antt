use Rattle.t1_faults.proofs.composites.+push_found.Given as goal

abbrev pub decreases-push_found : goal.decreases-push_found
decreases-push_found l = l.depth
