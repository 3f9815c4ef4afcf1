use Rattle.std.proofs.Common.{◌≡◌, ◌≤◌, ◌^◌, ◌-◌}
use Rattle.t1_font.specs.Assembly.{private_text}
use Rattle.t1_font.specs.Lengths.{private_length}
use Rattle.t1_font.proofs.PrivateLaws.{added}
use Rattle.t1_font.proofs.line_lengths.private_len.Given as goal

-- the lengths so far, with that of the items that are left
abbrev pub invariant-loop-item : goal.invariant-loop-item
invariant-loop-item l =
    (goal.iterator-loop-item).can_next l.item-iterator × (goal.iterator-loop-item).is_finite l.item-iterator
    × (l.total ≤ 2 ^ 64 - 1) × (added l.total (private_text l.lead l.operator l.item-iterator) ≡ private_length l.lead l.operator l.items)
