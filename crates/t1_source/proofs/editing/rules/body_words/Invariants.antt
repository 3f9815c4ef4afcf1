use Rattle.std.proofs.Common.{◌≡◌, ◌++◌, length}
use Rattle.t1_source.specs.Editing.{body_words}
use Rattle.t1_source.proofs.editing.rules.body_words.Given as goal

-- the words so far, and those of the rest
abbrev pub invariant-loop-rest : goal.invariant-loop-rest
invariant-loop-rest l = l.found ++ body_words l.rest ≡ body_words l.body

abbrev pub decreases-loop-rest : goal.decreases-loop-rest
decreases-loop-rest l = length l.rest
