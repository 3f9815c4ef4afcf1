use Rattle.t1_extent.proofs.Exacts.{less_read, less_wide}
use Rattle.t1_extent.proofs.exact.Exact.is_less.Goals as goal

pub returns-then-self-other : goal.returns-then-self-other
returns-then-self-other c = less_read c.args.self.now c.args.other.now c.if-self-other.true

pub returns : goal.returns
returns c = less_wide c.args.self.now c.args.other.now c.over.result c.over-2.result c.over.type_inv c.over-2.type_inv c.over.ensures c.over-2.ensures
