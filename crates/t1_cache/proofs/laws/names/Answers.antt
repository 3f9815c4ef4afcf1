use Rattle.t1_cache.proofs.EditedNames.{names_edited}
use Rattle.t1_cache.proofs.laws.names.Goals as goal

pub returns : goal.returns
returns c = names_edited
