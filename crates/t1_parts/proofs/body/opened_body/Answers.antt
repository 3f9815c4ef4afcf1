use Rattle.t1_parts.proofs.OpeningLaws.{found_so, opened_after}
use Rattle.t1_parts.proofs.body.opened_body.Goals as goal

pub returns-clause-after : goal.returns-clause-after
returns-clause-after c = λ ls e.
    found_so _ _ c.body_of.result
    (λ f. opened_after c.args.bytes.now c.args.line.now c.split_at.result.1.now f.1.now ls c.opening_end.result f.0.more e c.opening_end.ensures.within c.opening_end.ensures.value c.split_at.ensures.back)
    c.body_of.ensures.after
