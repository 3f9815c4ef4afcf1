use Rattle.std.proofs.Common.{◌≡◌, length, take}
use Rattle.t1_frac.specs.Words.{words}
use Rattle.t1_code.specs.Words.{commands_of_words}
use Rattle.t1_code.specs.FoundCommands.{after_others}
use Rattle.t1_code.proofs.words.read_words.Given as goal

-- the commands so far stand in front of those of the words that are left, and the first ones first of all
abbrev pub invariant-words : goal.invariant-words
invariant-words l = record {
  read : after_others l.read.items (commands_of_words (words l.rest)) ≡ after_others l.fn.read.items (commands_of_words (words l.text));
  front : take (length l.fn.read.items) l.read.items ≡ l.fn.read.items;
}

abbrev pub decreases-words : goal.decreases-words
decreases-words l = length l.rest
