use Rattle.t1_faults.proofs.joins.+is_sound.Given as goal

abbrev pub decreases-is_sound : goal.decreases-is_sound
decreases-is_sound l = l.depth
