use Rattle.std.proofs.Common.{rules}
use Rattle.t1_source.specs.Editing.{encoded}
use Rattle.t1_source.proofs.editing.slots.encoding_code.Goals as goal

pub returns-clause-change : goal.returns-clause-change
unfolding encoded
returns-clause-change c k = search rules

pub returns-clause-fits : goal.returns-clause-fits
returns-clause-fits c k = search rules
