use Rattle.t1_tree.proofs.TreeLaws.{next_leaf, none_of}
use Rattle.t1_tree.proofs.iter.SummedIterIterator.next.Goals as goal

pub returns-clause-steps : goal.returns-clause-steps
returns-clause-steps g c =
    next_leaf c.self.inside.next c.self.inside.list.now c.self.inside.front.now c.leaf_from-leaf.result.now c.in-Some-split_first.rest.now c.args.self.now c.in-Some-split_first.element.now (none_of c.self.inside.front.now c.in_default.ensures.cases) c.self.view_is c.leaf_from-leaf.ensures.elements c.in-Some-split_first.ensures.cases.0
