use Rattle.std.proofs.Common.{◌≡◌, ◌++◌, take}
use Rattle.t1_faults.specs.Found.{word_faults}
use Rattle.t1_faults.proofs.found.push_word_faults.Given as goal

-- the faults of the words so far
abbrev pub invariant-loop-word : goal.invariant-loop-word
invariant-loop-word l = l.found.items ≡ l.fn.found.items ++ word_faults l.place (take l.word-index l.placed)
