use Rattle.t1_session.proofs.EditedBodyLaws.{first_fault}
use Rattle.t1_session.proofs.refused.told_fault.Goals as goal

pub returns-in-Fault : goal.returns-in-Fault
returns-in-Fault c = λ made h. first_fault made c.args.refusal c.in-Fault.fault c.in-Fault.is h
