use Rattle.std.proofs.Common.{◌≡◌, ◌++◌}
use Rattle.t1_charstrings.specs.Lines.{kept_lines_text, made_texts}
use Rattle.t1_charstrings.proofs.lines.lines_of.Given as goal

-- the lines of the items so far, and those of the rest
abbrev pub invariant-loop-item : goal.invariant-loop-item
invariant-loop-item l =
    (goal.iterator-loop-item).can_next l.item-iterator × (goal.iterator-loop-item).is_finite l.item-iterator
    × (made_texts l.lines.items l.text.items ++ kept_lines_text l.charstrings l.operator l.item-iterator ≡ kept_lines_text l.charstrings l.operator l.items)
