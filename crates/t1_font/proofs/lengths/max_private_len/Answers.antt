use Rattle.std.proofs.Common.{ap, sym, ◌∙◌, arith}
use Rattle.t1_parts.specs.ItemRefs.{item_of}
use Rattle.t1_font.specs.Assembly.{private_text}
use Rattle.t1_font.proofs.LengthLaws.{text_within}
use Rattle.t1_font.proofs.lengths.max_private_len.Goals as goal

pub loop-item-init : goal.loop-item-init
loop-item-init c = (
  tt,
  tt,
  λ short. λ text. λ whole.
      (text, ap (private_text c.args.lead c.args.operator.now) (c.into_iter-item-iterator.ensures.into_iter_gives ∙ c.iter-item-items.ensures.items) ∙ whole, omega arith),
)

pub loop-item-preserved : goal.loop-item-preserved
loop-item-preserved c = (
  tt,
  tt,
  λ short. λ text. λ whole.
      let before = c.loop-item.invariant.2 (omega (arith, c.saturating_add-total.ensures, short)) text whole in
      let seen = sym (ap (private_text c.args.lead c.args.operator.now) c.in-Some.ensures.steps) ∙ before.1 in
      text_within c.args.lead c.args.operator.now (item_of c.in-Some.item) c.next.new.self text before.0 c.max_line_len.result c.loop-item.total c.saturating_add-total.result
      (c.max_line_len.ensures (omega (arith, c.saturating_add-total.ensures, short))) seen before.2 (omega (arith, c.saturating_add-total.ensures, short)),
)
