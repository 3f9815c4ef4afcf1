use Rattle.std.proofs.Common.{◌∙◌, ap, sym, arith}
use Rattle.t1_tree.proofs.SumLaws.{sum_of_more_trees}
use Rattle.t1_tree.proofs.parts.sum_of_trees.Goals as goal

pub loop-tree-preserved : goal.loop-tree-preserved
loop-tree-preserved g c =
    let none = g.T.Sum.Sum.none in
    let plus = g.T.Sum.Sum.plus in
    let one = g.T.Element.sum_of in
    let laws = g.met.T.Sum.Sum in
    let more = sum_of_more_trees none plus one laws.grouping laws.none_after_none laws.none_after c.loop-tree.tree-index c.args.trees.now c.tree-item.result (omega (arith, c.loop-tree-test.true)) c.tree-item.is in
    c.add-sum.ensures ∙ ap (λ s. plus s c.sum.result) c.loop-tree.invariant ∙ ap (plus _) c.sum.ensures ∙ sym more
