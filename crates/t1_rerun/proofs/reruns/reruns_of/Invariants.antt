use Rattle.t1_rerun.proofs.Taking.{AreTaken}
use Rattle.t1_rerun.proofs.reruns.reruns_of.Given as goal

-- the reruns so far
abbrev pub invariant-loop-glyph : goal.invariant-loop-glyph
invariant-loop-glyph l = AreTaken l.fn.runs l.runs l.metrics l.glyph-index l.reruns.items
