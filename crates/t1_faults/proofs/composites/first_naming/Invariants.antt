use Rattle.std.proofs.Common.{◌≡◌, ℕ, List, drop}
use Rattle.std.specs.Option.{option_or}
use Rattle.t1_faults.specs.GlyphRuns.{first_naming, number_kept}
use Rattle.t1_faults.proofs.composites.first_naming.Given as goal

-- what is kept so far, and of the faults that are left
abbrev pub invariant-loop-number : goal.invariant-loop-number
invariant-loop-number l = (g : List ℕ) → option_or (number_kept l.numbers.entries g) (first_naming l.number (drop l.number l.found) g) ≡ first_naming 0 l.found g
