use Rattle.std.proofs.Common.{◌<◌, ◌∙◌, sym, subst}
use Rattle.t1_parts.proofs.StretchLaws.{silent_at, length_lines}
use Rattle.t1_parts.proofs.stretch.Stretch.len.Goals as goal

pub returns-in-Lines-clause-silent : goal.returns-in-Lines-clause-silent
returns-in-Lines-clause-silent c at d within more =
    rw c.in-Lines.is (silent_at at c.in-Lines.plain d (subst (λ n. at < n) (c.len.ensures.value ∙ sym (length_lines c.in-Lines.plain)) within) c.len.ensures.silent)
