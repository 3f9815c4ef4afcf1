use Rattle.std.proofs.Common.{drop}
use Rattle.t1_code.proofs.Writing.{passing, Written}
use Rattle.t1_afm.specs.Afm.{rest_text}
use Rattle.t1_afm.specs.Lines.{line_words}
use Rattle.t1_afm.proofs.line.put_rest.Given as goal

-- the words that are left
abbrev pub invariant-loop-word : goal.invariant-loop-word
invariant-loop-word g l =
    Written (passing g.W.Write.contents) l.fn.outlet l.outlet (rest_text (line_words l.words)) (rest_text (line_words (drop l.word-index l.words)))
