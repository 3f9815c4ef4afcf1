use Rattle.t1_cache.proofs.Edits.{edits_named}
use Rattle.t1_cache.proofs.laws.edits.Goals as goal

pub returns : goal.returns
returns c = edits_named
