use Rattle.std.proofs.Common.{◌≡◌, ◌≤◌, ◌<◌, ◌+◌, ◌^◌, ℕ, List, length, Ok}
use Rattle.t1_font.specs.Assembly.{private_text}
use Rattle.t1_font.proofs.lengths.max_private_len.Given as goal

-- the whole text is at most so much longer than the text of the items that are left
abbrev pub invariant-loop-item : goal.invariant-loop-item
invariant-loop-item l =
    (goal.iterator-loop-item).can_next l.item-iterator × (goal.iterator-loop-item).is_finite l.item-iterator
    × (l.total < 2 ^ 31 → (text : List ℕ) → private_text l.lead l.operator l.items ≡ Ok text
    → (rest : List ℕ) × (private_text l.lead l.operator l.item-iterator ≡ Ok rest) × (length text ≤ l.total + length rest))
