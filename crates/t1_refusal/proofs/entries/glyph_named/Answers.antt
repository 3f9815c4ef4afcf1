use Rattle.std.proofs.Common.{◌∙◌, ap, filter, refl, rules, tests}
use Rattle.std.proofs.lemmas.Iterator.Consumers.{YieldsList-from_first}
use Rattle.std.proofs.lemmas.Iterator.Search.{find_from_yields_List}
use Rattle.t1_parts.specs.Entries.{is_glyph}
use Rattle.t1_parts.specs.Stretches.{stands_alone}
use Rattle.t1_source.proofs.AloneSearchLaws.{find_alone}
use Rattle.t1_refusal.proofs.entries.glyph_named.Goals as goal

pub returns : goal.returns
returns c =
    find_from_yields_List (is_glyph c.args.name.now) _ _ c.find.result c.find.ensures.ran (YieldsList-from_first (λ item. item.now) (λ left. left) _ (c.alone-alone.ensures ∙ ap (filter stands_alone) c.iter.ensures.items)) (λ x b q k. search (rules, tests))
    ∙ find_alone (is_glyph c.args.name.now) (λ l. refl) c.args.items.now
