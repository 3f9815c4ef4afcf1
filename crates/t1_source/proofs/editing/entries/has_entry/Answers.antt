use Rattle.std.proofs.Common.{is_some, ap, ◌∙◌}
use Rattle.t1_parts.specs.EntryKeys.{is_entry_of}
use Rattle.t1_parts.proofs.EntryPlaceLaws.{found_any}
use Rattle.t1_source.proofs.editing.entries.has_entry.Goals as goal

pub returns : goal.returns
returns c = c.is_some.ensures ∙ ap is_some c.entry_place.ensures.value ∙ found_any (is_entry_of c.args.key.now) c.args.items.now
