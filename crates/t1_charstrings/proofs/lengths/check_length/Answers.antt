use Rattle.std.proofs.Common.{sym}
use Rattle.t1_charstrings.proofs.lengths.check_length.Goals as goal

pub returns : goal.returns
returns c = c.check_parts.ensures c.args.source.now (sym c.clear.ensures) (sym c.tail.ensures) c.requires
