use Rattle.std.proofs.Common.{◌∙◌}
use Rattle.t1_source.proofs.EntryFoundLaws.{through_subrs_is}
use Rattle.t1_source.proofs.editing.entries.through_subrs.Goals as goal

pub returns-clause-value : goal.returns-clause-value
returns-clause-value c = c.through_kind.ensures.value ∙ through_subrs_is c.args.items.now
