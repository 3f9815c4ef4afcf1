use Rattle.std.proofs.Common.{rules}
use Rattle.t1_source.specs.Editing.{added_subr}
use Rattle.t1_source.proofs.editing.entries.adding_subr.Goals as goal

pub returns-clause-change : goal.returns-clause-change
unfolding added_subr
returns-clause-change c k = search rules

pub returns-clause-fits : goal.returns-clause-fits
returns-clause-fits c k = search rules
