use Rattle.std.proofs.Common.{ap, sym, ◌∙◌, arith}
use Rattle.t1_parts.specs.ItemRefs.{item_of}
use Rattle.t1_font.specs.Assembly.{private_text}
use Rattle.t1_font.proofs.PrivateLaws.{added, next_len}
use Rattle.t1_font.proofs.line_lengths.private_len.Goals as goal

pub loop-item-preserved : goal.loop-item-preserved
loop-item-preserved c = (
  tt,
  tt,
  omega (arith, c.saturating_add-total.ensures),
  next_len c.args.lead c.args.operator.now (item_of c.in-Some.item) c.next.new.self c.in_ok-line_len.field-0 c.loop-item.total c.saturating_add-total.result _
      c.in_ok-line_len.ensures c.saturating_add-total.ensures
      (sym (ap (λ left. added c.loop-item.total (private_text c.args.lead c.args.operator.now left)) c.in-Some.ensures.steps) ∙ c.loop-item.invariant.3),
)
