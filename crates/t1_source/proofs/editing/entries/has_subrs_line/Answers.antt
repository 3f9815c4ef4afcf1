use Rattle.std.proofs.Common.{◌∙◌, ap, filter, refl, rules, tests}
use Rattle.std.proofs.lemmas.Iterator.Consumers.{YieldsList-from_first}
use Rattle.std.proofs.lemmas.Iterator.Search.{any_from_yields_List}
use Rattle.t1_parts.specs.Sections.{is_subrs_line}
use Rattle.t1_parts.specs.Stretches.{stands_alone}
use Rattle.t1_source.proofs.AloneSearchLaws.{any_alone}
use Rattle.t1_source.proofs.editing.entries.has_subrs_line.Goals as goal

pub returns : goal.returns
returns c =
    any_from_yields_List is_subrs_line _ _ c.any.result c.any.ensures.ran (YieldsList-from_first (λ item. item.now) (λ left. left) _ (c.alone-alone.ensures ∙ ap (filter stands_alone) c.iter.ensures.items)) (λ x b q k. search (rules, tests))
    ∙ any_alone is_subrs_line (λ l. refl) c.args.items.now
