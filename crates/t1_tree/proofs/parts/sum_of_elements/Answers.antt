use Rattle.std.proofs.Common.{◌∙◌, ap, sym, arith}
use Rattle.t1_tree.proofs.SumLaws.{sum_of_more}
use Rattle.t1_tree.proofs.parts.sum_of_elements.Goals as goal

pub loop-item-preserved : goal.loop-item-preserved
loop-item-preserved g c =
    let none = g.T.Sum.Sum.none in
    let plus = g.T.Sum.Sum.plus in
    let one = g.T.Element.sum_of in
    let more = sum_of_more none plus one c.loop-item.item-index c.args.items.now c.item-item.result (omega (arith, c.loop-item-test.true)) c.item-item.is in
    c.add-sum.ensures ∙ ap (λ s. plus s c.sum.result) c.loop-item.invariant ∙ ap (plus _) c.sum.ensures ∙ sym more
