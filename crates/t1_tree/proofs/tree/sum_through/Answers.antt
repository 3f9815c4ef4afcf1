use Rattle.std.proofs.Common.{◌≡◌, ◌∙◌, ap, sym, subst, arith}
use Rattle.t1_tree.proofs.SumLaws.{sum_from_more_trees}
use Rattle.t1_tree.proofs.tree.sum_through.Goals as goal

pub loop-tree-preserved : goal.loop-tree-preserved
loop-tree-preserved g c =
    let none = g.T.Sum.Sum.none in
    let plus = g.T.Sum.Sum.plus in
    let one = g.T.Element.sum_of in
    let laws = g.met.T.Sum.Sum in
    let more = sum_from_more_trees none plus one laws.grouping laws.none_after_none laws.none_after c.args.sum c.requires c.loop-tree.tree-index c.args.trees.now c.tree-item.result (omega (arith, c.loop-tree-test.true)) c.tree-item.is in (
      c.add-through.ensures ∙ ap (λ s. plus s c.sum.result) c.loop-tree.invariant.0 ∙ ap (plus _) c.sum.ensures ∙ sym more,
      subst (λ s. plus s none ≡ s) (sym c.add-through.ensures) (laws.none_after c.loop-tree.through c.sum.result),
    )
