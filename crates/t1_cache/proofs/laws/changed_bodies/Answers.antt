use Rattle.t1_cache.proofs.Changing.{changed_bodies}
use Rattle.t1_cache.proofs.laws.changed_bodies.Goals as goal

pub returns : goal.returns
returns c = changed_bodies
