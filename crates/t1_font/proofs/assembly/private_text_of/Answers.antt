use Rattle.std.proofs.Common.{ap, sym, ◌∙◌}
use Rattle.t1_parts.specs.ItemRefs.{item_of}
use Rattle.t1_font.specs.Assembly.{private_text}
use Rattle.t1_font.specs.Lengths.{put_after}
use Rattle.t1_font.proofs.PrivateLaws.{next_item}
use Rattle.t1_font.proofs.assembly.private_text_of.Goals as goal

pub loop-item-preserved : goal.loop-item-preserved
loop-item-preserved c = (
  tt,
  tt,
  next_item c.args.lead c.args.operator.now (item_of c.in-Some.item) c.next.new.self c.loop-item.text.items c.push_item.new.text.items _ c.in_ok-push_item.ensures
      (sym (ap (λ left. put_after c.loop-item.text.items (private_text c.args.lead c.args.operator.now left)) c.in-Some.ensures.steps) ∙ c.loop-item.invariant.2),
)
