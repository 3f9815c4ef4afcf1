use Rattle.std.proofs.Common.{◌∙◌, ap, filter, refl, rules, tests}
use Rattle.std.proofs.lemmas.Iterator.Consumers.{YieldsList-from_first}
use Rattle.std.proofs.lemmas.Iterator.Search.{find_from_yields_List}
use Rattle.t1_parts.specs.Counts.{is_glyph_entry}
use Rattle.t1_parts.specs.Stretches.{stands_alone}
use Rattle.t1_source.proofs.AloneSearchLaws.{find_alone}
use Rattle.t1_source.proofs.editing.entries.first_glyph.Goals as goal

pub returns : goal.returns
returns c =
    find_from_yields_List is_glyph_entry _ _ c.find.result c.find.ensures.ran (YieldsList-from_first (λ item. item.now) (λ left. left) _ (c.alone-alone.ensures ∙ ap (filter stands_alone) c.iter.ensures.items)) (λ x b q k. search (rules, tests))
    ∙ find_alone is_glyph_entry (λ l. refl) c.args.items.now
