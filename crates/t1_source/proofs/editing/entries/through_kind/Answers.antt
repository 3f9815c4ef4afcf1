use Rattle.t1_parts.specs.EntryKeys.{is_of_kind}
use Rattle.t1_source.proofs.EntryFoundLaws.{through_last_is}
use Rattle.t1_source.proofs.editing.entries.through_kind.Goals as goal

pub returns-clause-within : goal.returns-clause-within
returns-clause-within c = c.through_last.ensures.0

pub returns-clause-value : goal.returns-clause-value
returns-clause-value c = through_last_is (is_of_kind c.args.kind) c.args.items.now c.through_last.result c.through_last.ensures
