use Rattle.std.proofs.Common.{◌≡◌, ℕ, List, map, take}
use Rattle.t1_faults.specs.GlyphRuns.{own_kept, seen_run}
use Rattle.t1_faults.specs.Met.{own_fault}
use Rattle.t1_faults.proofs.met.own_faults.Given as goal

-- the faults of the runs so far
abbrev pub invariant-loop-run : goal.invariant-loop-run
invariant-loop-run l = (g : List ℕ) → own_kept l.faults.entries g ≡ own_fault (map seen_run (take l.run-index l.failed)) g
