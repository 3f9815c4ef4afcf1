use Rattle.std.proofs.Common.{◌≡◌, ◌<◌, ◌^◌, ◌-◌, min, take}
use Rattle.std.specs.Prelude.{sum_by}
use Rattle.t1_font.specs.OwnedKeys.{key_of}
use Rattle.t1_charstrings.specs.Beside.{bare_length}
use Rattle.t1_charstrings.specs.Kept.{charstring_at}
use Rattle.t1_charstrings.proofs.edited_lines.gone_len.Given as goal

-- the lines of those so far
abbrev pub invariant-loop-entry : goal.invariant-loop-entry
invariant-loop-entry l =
    (l.total < 2 ^ 64)
    × (l.total ≡ min (sum_by (λ g. bare_length (charstring_at l.charstrings) l.operator (key_of g)) (take l.entry-index l.gone)) (2 ^ 64 - 1))
