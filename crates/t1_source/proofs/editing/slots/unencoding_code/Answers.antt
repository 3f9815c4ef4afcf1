use Rattle.std.proofs.Common.{rules}
use Rattle.t1_source.specs.Editing.{unencoded}
use Rattle.t1_source.proofs.editing.slots.unencoding_code.Goals as goal

pub returns-clause-change : goal.returns-clause-change
unfolding unencoded
returns-clause-change c k = search rules

pub returns-clause-fits : goal.returns-clause-fits
returns-clause-fits c k = search rules
