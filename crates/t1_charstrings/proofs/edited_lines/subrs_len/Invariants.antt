use Rattle.std.proofs.Common.{◌≡◌, ◌+◌, ◌<◌, ◌^◌, ◌-◌, min}
use Rattle.std.specs.Prelude.{sum_by}
use Rattle.std.specs.Map.{keys_of}
use Rattle.t1_run.specs.Run.{Subr}
use Rattle.t1_charstrings.specs.Beside.{bare_length}
use Rattle.t1_charstrings.specs.Kept.{charstring_at}
use Rattle.t1_charstrings.proofs.edited_lines.subrs_len.Given as goal

-- the lines so far with those that are left
abbrev pub invariant-loop-number : goal.invariant-loop-number
invariant-loop-number l =
    (goal.iterator-loop-number).can_next l.number-iterator × (goal.iterator-loop-number).is_finite l.number-iterator
    × (l.total < 2 ^ 64)
    × (min (l.total + sum_by (λ n. bare_length (charstring_at l.charstrings) l.operator (Subr n)) l.number-iterator) (2 ^ 64 - 1)
    ≡ min (sum_by (λ n. bare_length (charstring_at l.charstrings) l.operator (Subr n)) (keys_of l.subrs.entries)) (2 ^ 64 - 1))
