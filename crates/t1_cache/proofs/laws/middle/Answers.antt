use Rattle.t1_cache.proofs.Middles.{edited_middle}
use Rattle.t1_cache.proofs.laws.middle.Goals as goal

pub returns : goal.returns
returns c = edited_middle
