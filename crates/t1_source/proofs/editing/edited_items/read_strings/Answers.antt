use Rattle.std.proofs.Common.{rules, tests}
use Rattle.std.proofs.lemmas.Iterator.Consumers.{YieldsList-from_first}
use Rattle.std.proofs.lemmas.Iterator.Search.{any_from_yields_List}
use Rattle.t1_parts.specs.ItemRefs.{item_of}
use Rattle.t1_parts.specs.Operator.{reads_strings}
use Rattle.t1_source.proofs.editing.edited_items.read_strings.Goals as goal

pub returns : goal.returns
returns c =
    any_from_yields_List reads_strings _ _ c.any.result c.any.ensures.ran (YieldsList-from_first item_of (λ left. left) _ c.again-left.ensures) (λ x b q k. search (rules, tests))
