use Rattle.std.proofs.Common.{◌≡◌, ◌+◌, ◌<◌, ◌^◌, ◌-◌, min}
use Rattle.std.specs.Prelude.{sum_by}
use Rattle.std.specs.Map.{keys_of}
use Rattle.t1_run.specs.Run.{Glyph}
use Rattle.t1_charstrings.specs.Beside.{bare_length}
use Rattle.t1_charstrings.specs.Kept.{charstring_at}
use Rattle.t1_charstrings.proofs.edited_lines.glyphs_len.Given as goal

-- the lines so far with those that are left
abbrev pub invariant-loop-name : goal.invariant-loop-name
invariant-loop-name l =
    (goal.iterator-loop-name).can_next l.name-iterator × (goal.iterator-loop-name).is_finite l.name-iterator
    × (l.total < 2 ^ 64)
    × (min (l.total + sum_by (λ n. bare_length (charstring_at l.charstrings) l.operator (Glyph n.items)) l.name-iterator) (2 ^ 64 - 1)
    ≡ min (sum_by (λ n. bare_length (charstring_at l.charstrings) l.operator (Glyph n.items)) (keys_of l.glyphs.entries)) (2 ^ 64 - 1))
