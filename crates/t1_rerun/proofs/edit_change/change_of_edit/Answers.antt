use Rattle.t1_rerun.proofs.EditChecks.{change-reported}
use Rattle.t1_rerun.proofs.edit_change.change_of_edit.Goals as goal

pub returns-clause-changed : goal.returns-clause-changed
returns-clause-changed c = λ old new is. change-reported c.args.edit.now old new is c.entry_change.result c.entry_change.ensures
