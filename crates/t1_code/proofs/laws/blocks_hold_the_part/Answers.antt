use Rattle.t1_code.proofs.Framing.{blocks_join, blocks_short}
use Rattle.t1_code.proofs.laws.blocks_hold_the_part.Goals as goal

pub returns-clause-bytes : goal.returns-clause-bytes
returns-clause-bytes c size bytes some = blocks_join size bytes some

pub returns-clause-short : goal.returns-clause-short
returns-clause-short c size bytes some = blocks_short size bytes some
