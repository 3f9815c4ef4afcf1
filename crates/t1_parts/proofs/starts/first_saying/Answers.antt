use Rattle.std.proofs.Common.{◌∙◌, rules, tests}
use Rattle.std.proofs.lemmas.Iterator.Consumers.{YieldsList-from_first}
use Rattle.std.proofs.lemmas.Iterator.Search.{find_from_yields_List}
use Rattle.t1_parts.specs.LenIV.{says_lead}
use Rattle.t1_parts.proofs.AloneLaws.{lead_alone}
use Rattle.t1_parts.proofs.starts.first_saying.Goals as goal

pub returns : goal.returns
returns c =
    find_from_yields_List says_lead _ _ c.find.result c.find.ensures.ran (YieldsList-from_first (λ item. item.now) (λ left. left) _ c.alone-alone.ensures) (λ x b q k. search (rules, tests))
    ∙ lead_alone c.args.items
