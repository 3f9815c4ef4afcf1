use Rattle.t1_cache.proofs.EditedBodies.{body_edited}
use Rattle.t1_cache.proofs.laws.body.Goals as goal

pub returns : goal.returns
returns c = body_edited
