use Rattle.std.proofs.Common.{rules}
use Rattle.t1_tree.proofs.NodeLaws.{has_some}
use Rattle.t1_tree.proofs.node.Tree.of.Goals as goal

pub returns-clause-some : goal.returns-clause-some
returns-clause-some g c =
    let some = has_some c.args.height c.args.node c.requires in
    search rules
