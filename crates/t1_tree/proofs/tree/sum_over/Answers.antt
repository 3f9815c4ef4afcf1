use Rattle.std.proofs.Common.{◌∙◌, ap, sym, arith}
use Rattle.t1_tree.proofs.SumLaws.{sum_from_more}
use Rattle.t1_tree.proofs.tree.sum_over.Goals as goal

pub loop-item-preserved : goal.loop-item-preserved
loop-item-preserved g c =
    let none = g.T.Sum.Sum.none in
    let plus = g.T.Sum.Sum.plus in
    let one = g.T.Element.sum_of in
    let more = sum_from_more none plus one c.args.sum c.loop-item.item-index c.args.items.now c.item-item.result (omega (arith, c.loop-item-test.true)) c.item-item.is in
    c.add-through.ensures ∙ ap (λ s. plus s c.sum.result) c.loop-item.invariant ∙ ap (plus _) c.sum.ensures ∙ sym more
