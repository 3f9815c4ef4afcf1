use Rattle.std.proofs.Common.{◌∙◌}
use Rattle.t1_source.proofs.EntryFoundLaws.{through_glyphs_is}
use Rattle.t1_source.proofs.editing.entries.through_glyphs.Goals as goal

pub returns-clause-value : goal.returns-clause-value
returns-clause-value c = c.through_kind.ensures.value ∙ through_glyphs_is c.args.items.now
