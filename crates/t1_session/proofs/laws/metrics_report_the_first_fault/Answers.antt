use Rattle.t1_session.proofs.FaultLaws.{metrics_tell_first}
use Rattle.t1_session.proofs.laws.metrics_report_the_first_fault.Goals as goal

pub returns : goal.returns
returns c = metrics_tell_first
