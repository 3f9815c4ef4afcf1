use Rattle.std.proofs.Common.{◌≡◌, drop}
use Rattle.std.specs.Option.{option_or}
use Rattle.t1_run.specs.Run.{Key}
use Rattle.t1_charstrings.specs.Kept.{charstring_at}
use Rattle.t1_held.specs.Entries.{fresh_in}
use Rattle.t1_held.proofs.preparing.fresh_charstrings.Given as goal

-- what was put in, and the changes that are left
abbrev pub invariant-loop-change : goal.invariant-loop-change
invariant-loop-change l =
    (k : Key) → option_or (fresh_in l.fn.lead (drop l.change-index l.fn.changes) k) (charstring_at l.fresh k) ≡ fresh_in l.fn.lead l.fn.changes k
