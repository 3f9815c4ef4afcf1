use Rattle.std.proofs.Common.{◌≡◌, drop}
use Rattle.std.specs.Prelude.{map}
use Rattle.t1_faults.specs.Hints.{first_within}
use Rattle.t1_faults.proofs.hint.first_within.Given as goal

-- no word so far is so near
abbrev pub invariant-loop-other : goal.invariant-loop-other
invariant-loop-other l =
    first_within l.most l.word (map (λ name. name.now) (drop l.other-index l.others)) ≡ first_within l.most l.word (map (λ name. name.now) l.others)
