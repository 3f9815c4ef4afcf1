use Rattle.std.proofs.Common.{arith}
use Rattle.t1_tree.proofs.NodeLaws.{has_some}
use Rattle.t1_tree.proofs.node.Tree.len.Goals as goal

pub returns-clause-some : goal.returns-clause-some
returns-clause-some g c =
    let some = has_some c.self.inside.height c.self.inside.node.value c.self.invariant.1 in
    omega (arith, some, c.self.invariant.0)
