use Rattle.t1_cache.proofs.Judging.{first_fault_stale}
use Rattle.t1_cache.proofs.laws.first_fault.Goals as goal

pub returns : goal.returns
returns c = first_fault_stale
