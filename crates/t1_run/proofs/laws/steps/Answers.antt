use Rattle.t1_run.proofs.Asked.{steps_within}
use Rattle.t1_run.proofs.Steps.{step-counts, last-step}
use Rattle.t1_run.proofs.laws.steps.Goals as goal

pub returns : goal.returns
returns c = record { bounded = steps_within; counted = step-counts; last = last-step }
