use Rattle.std.proofs.Common.{◌≡◌, length}
use Rattle.t1_text.specs.Lines.{lines}
use Rattle.t1_disassemble.specs.Settings.{reading_operator}
use Rattle.t1_disassemble.proofs.settings.reading_operator.Given as goal

-- the lines before the rest say nothing
abbrev pub invariant-loop-rest : goal.invariant-loop-rest
invariant-loop-rest l = reading_operator (lines l.rest) ≡ reading_operator (lines l.private)

abbrev pub decreases-loop-rest : goal.decreases-loop-rest
decreases-loop-rest l = length l.rest
