use Rattle.std.proofs.Common.{◌≡◌, ℕ, List, vec_len}
use Rattle.std.specs.Option.{option_or}
use Rattle.t1_cache.specs.Renewed.{reruns_by_name}
use Rattle.t1_rerun.specs.Steps.{new_run}
use Rattle.t1_rerun.proofs.changing.preparing.runs_by_name.Given as goal

-- a run that is left, or else one by name, is that of all
abbrev pub invariant-loop-rerun : goal.invariant-loop-rerun
invariant-loop-rerun l = (g : List ℕ) → option_or (new_run l.left.items g) (new_run (reruns_by_name l.runs.entries) g) ≡ new_run l.fn.reruns.items g

abbrev pub decreases-loop-rerun : goal.decreases-loop-rerun
decreases-loop-rerun l = vec_len l.left
