use Rattle.std.proofs.Common.{◌≡◌, ◌++◌, if◌then◌else◌, Some, None, filter_map, length}
use Rattle.t1_text.specs.Lines.{lines}
use Rattle.t1_parts.specs.Parts.{is_zeros}
use Rattle.t1_parts.proofs.parts.kept_lines.Given as goal

-- the lines kept so far, and those of the rest
abbrev pub invariant-loop-rest : goal.invariant-loop-rest
invariant-loop-rest l =
    l.kept.items ++ filter_map (λ k. if is_zeros k then None else Some k) (lines l.rest) ≡ filter_map (λ k. if is_zeros k then None else Some k) (lines l.bytes)

abbrev pub decreases-loop-rest : goal.decreases-loop-rest
decreases-loop-rest l = length l.rest
