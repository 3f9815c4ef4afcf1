use Rattle.std.proofs.Common.{ap, ◌∙◌, Some}
use Rattle.t1_extent.specs.Extremes.{limit_check}
use Rattle.t1_extent.specs.Exacts.{extremes_of}
use Rattle.t1_extent.proofs.Exacts.{reaching_inside}
use Rattle.t1_extent.proofs.corners.unite.Goals as goal

pub returns-in-Some-Some-clause-within : goal.returns-in-Some-Some-clause-within
returns-in-Some-Some-clause-within c =
    let one = extremes_of c.in-Some-Some.one in
    let other = extremes_of c.in-Some-Some.other in
    rw (c.in-Some-Some.is-0, c.in-Some-Some.is-1) (λ h k. ap (λ e. limit_check (Some e)) c.reaching.ensures.value ∙ reaching_inside one other h k)

pub returns-in-Some-Some-clause-fine : goal.returns-in-Some-Some-clause-fine
returns-in-Some-Some-clause-fine c = rw (c.in-Some-Some.is-0, c.in-Some-Some.is-1) (λ n h k. c.reaching.ensures.fine n h k)
