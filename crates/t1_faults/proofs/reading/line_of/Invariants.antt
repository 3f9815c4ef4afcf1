use Rattle.std.proofs.Common.{◌≡◌, ℕ, ◌+◌, []}
use Rattle.std.specs.List.{slice_index_or}
use Rattle.t1_text.specs.Lines.{lines}
use Rattle.t1_faults.proofs.reading.line_of.Given as goal

-- a line of the rest is one of all lines, so many lines on
abbrev pub invariant-loop-turn : goal.invariant-loop-turn
invariant-loop-turn l = (k j : ℕ) → k + l._turn ≡ j → slice_index_or (lines l.rest) k [] ≡ slice_index_or (lines l.bytes) j []
