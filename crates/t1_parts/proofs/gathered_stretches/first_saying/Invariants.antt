use Rattle.std.proofs.Common.{◌≡◌, drop}
use Rattle.std.specs.List.{find}
use Rattle.t1_parts.specs.LenIV.{says_lead}
use Rattle.t1_parts.specs.NumberedStretches.{numbered_in}
use Rattle.t1_parts.proofs.gathered_stretches.first_saying.Given as goal

-- none of the stretches before the rest says lenIV
abbrev pub invariant-loop-at : goal.invariant-loop-at
invariant-loop-at l =
    find (λ i. says_lead i.1) (numbered_in (drop l.at l.numbers) (drop l.at l.stretches)) ≡ find (λ i. says_lead i.1) (numbered_in l.numbers l.stretches)
