use Rattle.std.proofs.Common.{◌∙◌, ◌++◌, ap}
use Rattle.t1_tree.proofs.NodeLaws.{inner_both}
use Rattle.t1_tree.proofs.node.Node.joined_with.Goals as goal

pub returns-in_ok-both-in-Inner : goal.returns-in_ok-both-in-Inner
returns-in_ok-both-in-Inner g c =
    inner_both c.args.self.now c.args.next.now c.in-Inner.front c.in-Inner-next.back c.in_ok-both-in-Inner.both c.in-Inner.is c.in-Inner-next.is
    (c.in_ok-both-in-Inner.ensures ∙ ap (λ l. l ++ c.as_slice-in-Inner-2.result.now) c.as_slice-in-Inner.ensures.value ∙ ap (λ l. c.in-Inner.front.items ++ l) c.as_slice-in-Inner-2.ensures.value)
