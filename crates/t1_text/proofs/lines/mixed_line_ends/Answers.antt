use Rattle.std.proofs.Common.{◌≡◌, ◌+◌, ◌<◌, length, drop, sym, ◌∙◌, ap, subst, arith}
use Rattle.t1_text.specs.Lines.{after_end}
use Rattle.t1_text.specs.LineEnds.{line_ends}
use Rattle.t1_text.proofs.EndLaws.{end_counted, end_gone, no_end}
use Rattle.t1_text.proofs.lines.mixed_line_ends.Goals as goal

pub loop-at-preserved : goal.loop-at-preserved
loop-at-preserved c =
    let rest = c.loop-at.rest.now in
    let at = c.loop-at.at in
    let same : c.after_end-rest.result.now ≡ after_end (drop at rest) = c.after_end-rest.ensures ∙ ap after_end c.split_at.ensures.back in
    let counted = end_counted rest at c.loop-at.count c.loop-at.invariant.2 c.loop-at-test.true in
    let gone : length c.after_end-rest.result.now < length rest = subst (λ l. length l < length rest) (sym same) (end_gone rest at c.loop-at-test.true) in
    (ap (λ l. c.loop-at.count + 1 + line_ends l) same ∙ counted ∙ c.loop-at.invariant.0, omega (arith, gone, c.loop-at.invariant.1), c.line_len-at-in-loop-at.ensures.value)

pub returns-clause-value : goal.returns-clause-value
returns-clause-value c =
    let all = no_end c.loop-at.rest.now (omega (arith, c.loop-at.invariant.2, c.loop-at-test.false)) in
    omega (arith, all, c.loop-at.invariant.0)
