use Rattle.std.proofs.Common.{◌∙◌, ap, filter, rules, tests}
use Rattle.std.proofs.lemmas.Iterator.Consumers.{YieldsList-from_first}
use Rattle.std.proofs.lemmas.Iterator.Search.{any_from_yields_List}
use Rattle.t1_parts.specs.Stretches.{stands_alone}
use Rattle.t1_parts.specs.LenIV.{says_lead}
use Rattle.t1_source.proofs.EditedItemsLaws.{say_alone}
use Rattle.t1_source.proofs.editing.edited_items.say_lead.Goals as goal

pub returns : goal.returns
returns c =
    any_from_yields_List says_lead _ _ c.any.result c.any.ensures.ran (YieldsList-from_first (λ item. item.now) (λ left. left) _ (c.alone-alone.ensures ∙ ap (filter stands_alone) c.again.ensures)) (λ x b q k. search (rules, tests))
    ∙ say_alone c.args.items.now
