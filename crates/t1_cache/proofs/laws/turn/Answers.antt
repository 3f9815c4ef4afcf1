use Rattle.t1_cache.proofs.Turns.{turns}
use Rattle.t1_cache.proofs.laws.turn.Goals as goal

pub returns : goal.returns
returns c = turns
