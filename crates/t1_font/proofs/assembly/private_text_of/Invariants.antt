use Rattle.std.proofs.Common.{◌≡◌}
use Rattle.t1_font.specs.Assembly.{private_text}
use Rattle.t1_font.specs.Lengths.{put_after}
use Rattle.t1_font.proofs.assembly.private_text_of.Given as goal

-- the text so far stands in front of that of the items that are left
abbrev pub invariant-loop-item : goal.invariant-loop-item
invariant-loop-item l =
    (goal.iterator-loop-item).can_next l.item-iterator × (goal.iterator-loop-item).is_finite l.item-iterator
    × (put_after l.text.items (private_text l.lead l.operator l.item-iterator) ≡ private_text l.lead l.operator l.items)
