use Rattle.std.proofs.Common.{◌≡◌, ◌||◌, ℕ, nat_eq, drop}
use Rattle.std.specs.List.{list_any}
use Rattle.t1_run.specs.RunKeys.{has_number}
use Rattle.t1_measured_notes.proofs.entered.put_numbers.Given as goal

-- the numbers so far, and those that are left
abbrev pub invariant-loop-number : goal.invariant-loop-number
invariant-loop-number l =
    (n : ℕ) → (has_number l.numbers.keys n || list_any (nat_eq n) (drop l.number-index l.more)) ≡ (has_number l.fn.numbers.keys n || list_any (nat_eq n) l.more)
