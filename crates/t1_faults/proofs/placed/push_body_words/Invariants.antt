use Rattle.std.proofs.Common.{◌≡◌, ◌<◌, ◌+◌, ◌^◌, ◌∷◌, ◌++◌, length}
use Rattle.t1_text.specs.Lines.{lines}
use Rattle.t1_faults.specs.Placed.{placed_body}
use Rattle.t1_faults.proofs.placed.push_body_words.Given as goal

-- the words so far, and those from this line on
abbrev pub invariant-loop-rest : goal.invariant-loop-rest
invariant-loop-rest l = record {
  words : l.placed.items ++ placed_body l.current l.from (l.text ∷ lines l.rest) ≡ l.fn.placed.items ++ placed_body l.number l.column (l.line ∷ lines l.later);
  numbers : l.current + length (lines l.rest) < 2 ^ 64;
  columns : l.from + length l.text < 2 ^ 64;
}

abbrev pub decreases-loop-rest : goal.decreases-loop-rest
decreases-loop-rest l = length l.rest
