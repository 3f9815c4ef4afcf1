use Rattle.t1_cache.proofs.Renewing.{names_kept}
use Rattle.t1_cache.proofs.laws.kept_names.Goals as goal

pub returns : goal.returns
returns c = names_kept
