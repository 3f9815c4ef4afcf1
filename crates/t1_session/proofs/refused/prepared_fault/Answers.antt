use Rattle.t1_source.specs.Changes.{changed}
use Rattle.t1_session.proofs.EditedBodyLaws.{no_fault}
use Rattle.t1_session.proofs.refused.prepared_fault.Goals as goal

pub returns-in-None-clause-fault : goal.returns-in-None-clause-fault
returns-in-None-clause-fault c = no_fault (changed c.args.change.now c.args.source.now c.args.pairs.now).0 c.in-None.ensures.checked

pub returns-in-None-clause-held : goal.returns-in-None-clause-held
returns-in-None-clause-held c = c.judged_edit.ensures.held

pub returns-in-None-clause-kept : goal.returns-in-None-clause-kept
returns-in-None-clause-kept c = c.judged_edit.ensures.kept

pub returns-in-Some-clause-fault : goal.returns-in-Some-clause-fault
returns-in-Some-clause-fault c = c.told_fault.ensures (changed c.args.change.now c.args.source.now c.args.pairs.now).0 c.in-Some.ensures.checked

pub returns-in-Some-clause-held : goal.returns-in-Some-clause-held
returns-in-Some-clause-held c = c.judged_edit.ensures.held

pub returns-in-Some-clause-kept : goal.returns-in-Some-clause-kept
returns-in-Some-clause-kept c = c.judged_edit.ensures.kept
