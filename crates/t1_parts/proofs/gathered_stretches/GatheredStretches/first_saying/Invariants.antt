use Rattle.std.proofs.Common.{◌≡◌, ◌++◌, drop, length}
use Rattle.std.specs.List.{find}
use Rattle.t1_parts.specs.LenIV.{says_lead}
use Rattle.t1_parts.specs.NumberedStretches.{numbered_in}
use Rattle.t1_parts.specs.Stretches.{stretches_in}
use Rattle.t1_parts.proofs.gathered_stretches.GatheredStretches.first_saying.Given as goal

-- none of the lists before the rest says lenIV
abbrev pub invariant-loop-stretches : goal.invariant-loop-stretches
invariant-loop-stretches l =
    (length l.left ≡ length (stretches_in (drop l.stretches-index l.self-inside.full.items) ++ l.self-inside.last.items))
    × (find (λ i. says_lead i.1) (numbered_in l.left (stretches_in (drop l.stretches-index l.self-inside.full.items) ++ l.self-inside.last.items))
    ≡ find (λ i. says_lead i.1) (numbered_in l.numbers l.self))
