use Rattle.std.proofs.Common.{◌≡◌, ◌++◌, ◌∷◌, [], ℕ, cond, length}
use Rattle.t1_faults.specs.GlyphRuns.{composites_kept}
use Rattle.t1_run.specs.RunKeys.{has_number}
use Rattle.t1_faults.proofs.composites.add_to_each.Given as goal

-- what is kept so far, and for the numbers that are left
abbrev pub invariant-loop-number : goal.invariant-loop-number
invariant-loop-number l =
    (n : ℕ)
    → composites_kept l.composites.entries n ++ cond (has_number l.rest n) (l.name ∷ []) []
    ≡ composites_kept l.fn.composites.entries n ++ cond (has_number l.numbers n) (l.name ∷ []) []

abbrev pub decreases-loop-number : goal.decreases-loop-number
decreases-loop-number l = length l.rest
