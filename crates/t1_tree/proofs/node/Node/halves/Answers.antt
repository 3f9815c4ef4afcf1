use Rattle.std.proofs.Common.{◌∙◌, ◌/◌, ap, arith, take, drop}
use Rattle.t1_tree.proofs.NodeLaws.{inner_halves, leaf_halves}
use Rattle.t1_tree.proofs.node.Node.halves.Goals as goal

pub returns-in_ok-back-in-Leaf : goal.returns-in_ok-back-in-Leaf
returns-in_ok-back-in-Leaf g c =
    let half = c.len-half.result / 2 in
    leaf_halves c.args.self.now c.in-Leaf.items c.in_ok-front-in-Leaf.front c.in_ok-back-in-Leaf.back half c.in-Leaf.is (omega arith) (omega arith)
    (c.in_ok-front-in-Leaf.ensures ∙ c.split_at.ensures.front ∙ ap (take half) c.as_slice.ensures.value)
    (c.in_ok-back-in-Leaf.ensures ∙ c.split_at.ensures.back ∙ ap (drop half) c.as_slice.ensures.value)

pub returns-in_ok-back-in-Inner : goal.returns-in_ok-back-in-Inner
returns-in_ok-back-in-Inner g c =
    let half = c.len-half-in-Inner.result / 2 in
    inner_halves c.args.self.now c.in-Inner.trees c.in_ok-front-in-Inner.front c.in_ok-back-in-Inner.back half c.in-Inner.is (omega arith) (omega arith)
    (c.in_ok-front-in-Inner.ensures ∙ c.split_at-in-Inner.ensures.front ∙ ap (take half) c.as_slice-in-Inner.ensures.value)
    (c.in_ok-back-in-Inner.ensures ∙ c.split_at-in-Inner.ensures.back ∙ ap (drop half) c.as_slice-in-Inner.ensures.value)
