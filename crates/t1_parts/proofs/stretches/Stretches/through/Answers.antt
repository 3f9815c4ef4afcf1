use Rattle.t1_parts.proofs.EntryPlaceLaws.{place_covered}
use Rattle.t1_parts.proofs.stretches.Stretches.through.Goals as goal

pub returns-clause-covered : goal.returns-clause-covered
returns-clause-covered c = place_covered c.args.at c.args.self.now c.place_of-index.result c.place_of-index.ensures c.if-offset-eq0.false
