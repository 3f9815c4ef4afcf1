use Rattle.std.proofs.Common.{◌≡◌, ◌++◌}
use Rattle.t1_pairs.specs.Kerning.{kern}
use Rattle.t1_pairs.proofs.pairs.Pairs.text.Given as goal

-- the text so far, and that of the pairs that are left
abbrev pub invariant-loop-pair : goal.invariant-loop-pair
invariant-loop-pair l =
    (goal.iterator-loop-pair).can_next l.pair-iterator × (goal.iterator-loop-pair).is_finite l.pair-iterator × (l.text.items ++ kern l.pair-iterator ≡ kern l.fn.self)
