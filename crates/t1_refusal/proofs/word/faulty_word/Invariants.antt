use Rattle.std.proofs.Common.{◌≡◌, ◌+◌, ◌≤◌, length}
use Rattle.t1_frac.specs.Words.{words}
use Rattle.t1_refusal.specs.Telling.{faulty_from}
use Rattle.t1_refusal.proofs.word.faulty_word.Given as goal

-- the words so far say something
abbrev pub invariant-loop-word : goal.invariant-loop-word
invariant-loop-word l = record {
  found : faulty_from l.number (words l.rest) ≡ faulty_from 1 (words l.body);
  within : l.number + length l.rest ≤ length l.body + 1;
}

abbrev pub decreases-loop-word : goal.decreases-loop-word
decreases-loop-word l = length l.rest
