use Rattle.std.proofs.Common.{sym, subst}
use Rattle.t1_parts.specs.EntryKeys.{IsEntryAt}
use Rattle.t1_source.proofs.EntryFoundLaws.{first_entry}
use Rattle.t1_source.proofs.editing.entries.entry_at.Goals as goal

pub returns-in-Some-clause-value : goal.returns-in-Some-clause-value
returns-in-Some-clause-value c =
    let there : IsEntryAt c.args.key.now c.args.source.now.items c.in-Some.at = subst (λ xs. IsEntryAt c.args.key.now xs c.in-Some.at) c.kept_items-items.ensures.value c.in-Some.ensures in
    sym (first_entry c.args.key.now c.args.source.now c.in-Some.at c.kept_items-items.ensures.kept there)
