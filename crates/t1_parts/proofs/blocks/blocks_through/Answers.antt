use Rattle.t1_parts.proofs.BlockLaws.{covered}
use Rattle.t1_parts.proofs.blocks.blocks_through.Goals as goal

pub returns-clause-covered : goal.returns-clause-covered
returns-clause-covered c within = covered c.args.at c.args.blocks.now c.place_of.result c.place_of.ensures
