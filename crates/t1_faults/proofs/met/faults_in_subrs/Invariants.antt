use Rattle.std.proofs.Common.{◌≡◌, ℕ, map, take}
use Rattle.t1_faults.specs.GlyphRuns.{faults_kept_at, seen_run}
use Rattle.t1_faults.specs.Met.{faults_at}
use Rattle.t1_faults.proofs.met.faults_in_subrs.Given as goal

-- the faults of the runs so far
abbrev pub invariant-loop-run : goal.invariant-loop-run
invariant-loop-run l = (n k : ℕ) → faults_kept_at l.met.entries n k ≡ faults_at (map seen_run (take l.run-index l.failed)) n k
