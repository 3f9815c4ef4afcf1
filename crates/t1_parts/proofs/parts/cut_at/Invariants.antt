use Rattle.std.proofs.Common.{length}
use Rattle.t1_parts.specs.Parts.{ends_in}
use Rattle.t1_parts.specs.LineCuts.{NoneGone}
use Rattle.t1_parts.proofs.parts.cut_at.Given as goal

-- none of the lines before the rest ends in the text
abbrev pub invariant-loop-rest : goal.invariant-loop-rest
invariant-loop-rest l = NoneGone (ends_in l.text) l.bytes l.rest

abbrev pub decreases-loop-rest : goal.decreases-loop-rest
decreases-loop-rest l = length l.rest
