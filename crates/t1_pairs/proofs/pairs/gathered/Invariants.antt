use Rattle.std.proofs.Common.{◌≡◌, ◌+◌, ◌≤◌, [], length}
use Rattle.t1_text.specs.Lines.{lines}
use Rattle.t1_pairs.specs.Kerning.{pairs_with}
use Rattle.t1_pairs.proofs.pairs.gathered.Given as goal

-- going on from here gives what all the lines give
abbrev pub invariant-loop-rest : goal.invariant-loop-rest
invariant-loop-rest l =
    (pairs_with l.found l.number (lines l.rest) ≡ pairs_with [] 1 (lines l.text)) × (l.number + length l.rest ≤ 1 + length l.text)

abbrev pub decreases-loop-rest : goal.decreases-loop-rest
decreases-loop-rest l = length l.rest
