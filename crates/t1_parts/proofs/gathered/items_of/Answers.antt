use Rattle.std.proofs.Common.{arith}
use Rattle.t1_text.proofs.CutLaws.{lines_within}
use Rattle.t1_parts.proofs.gathered.items_of.Goals as goal

pub read_front-requires-clause-fits : goal.read_front-requires-clause-fits
read_front-requires-clause-fits c =
    let size = lines_within c.args.bytes.now in
    omega (arith, size, c.loop-rest.invariant.1, c.requires)
