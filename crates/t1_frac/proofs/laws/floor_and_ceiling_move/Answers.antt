use Rattle.t1_frac.proofs.Rounded.{floor_and_ceiling_move}
use Rattle.t1_frac.proofs.laws.floor_and_ceiling_move.Goals as goal

pub returns : goal.returns
returns c = floor_and_ceiling_move
