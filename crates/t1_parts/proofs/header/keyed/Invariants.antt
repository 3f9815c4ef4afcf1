use Rattle.std.proofs.Common.{◌≡◌, length}
use Rattle.t1_parts.specs.Header.{keyed}
use Rattle.t1_parts.proofs.header.keyed.Given as goal

-- no line before the rest has the key
abbrev pub invariant-loop-line : goal.invariant-loop-line
invariant-loop-line l = keyed l.key l.rest ≡ keyed l.key l.clear

abbrev pub decreases-loop-line : goal.decreases-loop-line
decreases-loop-line l = length l.rest
