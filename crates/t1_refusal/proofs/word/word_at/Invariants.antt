use Rattle.std.proofs.Common.{◌≡◌, ◌+◌, ◌≤◌, length, option_map}
use Rattle.std.specs.List.{slice_get}
use Rattle.t1_frac.specs.Words.{words}
use Rattle.t1_refusal.proofs.word.word_at.Given as goal

-- the words that are passed, and those of the rest
abbrev pub invariant-loop-word : goal.invariant-loop-word
invariant-loop-word l = record {
  found : slice_get (words l.rest) l.left ≡ slice_get (words l.body) l.at;
  number : l.number + l.left ≡ l.at + 1;
  within : l.number + length l.rest ≤ length l.body + 1;
}

abbrev pub decreases-loop-word : goal.decreases-loop-word
decreases-loop-word l = length l.rest
