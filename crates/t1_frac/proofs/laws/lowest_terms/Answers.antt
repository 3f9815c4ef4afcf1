use Rattle.t1_frac.proofs.Exact.{lowest_terms}
use Rattle.t1_frac.proofs.laws.lowest_terms.Goals as goal

pub returns : goal.returns
returns c = lowest_terms
