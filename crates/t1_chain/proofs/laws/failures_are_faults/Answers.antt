use Rattle.t1_chain.proofs.FailingLaws.{failures_told}
use Rattle.t1_chain.proofs.laws.failures_are_faults.Goals as goal

pub returns : goal.returns
returns c = failures_told
