use Rattle.std.proofs.Common.{◌≡◌, length, take}
use Rattle.t1_frac.specs.Words.{words}
use Rattle.t1_code.specs.Words.{commands_of_words}
use Rattle.t1_code.specs.Appending.{charstring_onto}
use Rattle.t1_code.proofs.words.push_words.Given as goal

-- the code so far, and that of the words that are left
abbrev pub invariant-loop-command : goal.invariant-loop-command
invariant-loop-command l = record {
  coded : charstring_onto l.code.items (commands_of_words (words l.rest)) ≡ charstring_onto l.fn.code.items (commands_of_words (words l.text));
  front : take (length l.fn.code.items) l.code.items ≡ l.fn.code.items;
}

abbrev pub decreases-loop-command : goal.decreases-loop-command
decreases-loop-command l = length l.rest
