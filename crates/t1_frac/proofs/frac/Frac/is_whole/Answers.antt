use Rattle.t1_frac.proofs.Exact.{coprime_terms}
use Rattle.t1_frac.proofs.frac.Frac.is_whole.Goals as goal

pub returns-clause-terms : goal.returns-clause-terms
returns-clause-terms c =
    rw (← c.self.view_is) (coprime_terms (record { num = c.self.inside.num; den = c.self.inside.den }) c.self.invariant.0 c.self.invariant.1)
