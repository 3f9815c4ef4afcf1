use Rattle.std.proofs.Common.{◌≡◌, ◌+◌, ◌++◌, length}
use Rattle.t1_faults.specs.Placed.{placed_line}
use Rattle.t1_faults.proofs.placed.push_line_words.Given as goal

-- the words so far, and those of the rest
abbrev pub invariant-loop-place : goal.invariant-loop-place
invariant-loop-place l = record {
  words : l.placed.items ++ placed_line l.line l.from l.rest ≡ l.fn.placed.items ++ placed_line l.line l.column l.text;
  columns : l.from + length l.rest ≡ l.column + length l.text;
}

abbrev pub decreases-loop-place : goal.decreases-loop-place
decreases-loop-place l = length l.rest
