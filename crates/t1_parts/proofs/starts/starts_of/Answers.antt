use Rattle.std.proofs.Common.{sym}
use Rattle.t1_parts.proofs.SingleLaws.{single_length}
use Rattle.t1_parts.proofs.starts.starts_of.Goals as goal

pub returns-then-are_single-clause-len : goal.returns-then-are_single-clause-len
returns-then-are_single-clause-len c = sym (single_length c.args.stretches.now (c.requires c.if-are_single.true))
