use Rattle.std.proofs.Common.{◌≡◌, ◌+◌, length}
use Rattle.t1_text.specs.Lines.{lines}
use Rattle.t1_parts.specs.PlainRuns.{read_from}
use Rattle.t1_parts.specs.Private.{items_of}
use Rattle.t1_parts.proofs.gathered.items_of.Given as goal

-- going on from here gives what all the bytes give
abbrev pub invariant-loop-rest : goal.invariant-loop-rest
invariant-loop-rest l =
    (read_from l.items l.first (lines l.rest) ≡ items_of l.number (lines l.bytes)) × (l.first + length (lines l.rest) ≡ l.number + length (lines l.bytes))

abbrev pub decreases-loop-rest : goal.decreases-loop-rest
decreases-loop-rest l = length (lines l.rest)
