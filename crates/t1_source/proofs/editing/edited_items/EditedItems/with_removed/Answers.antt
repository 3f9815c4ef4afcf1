use Rattle.std.proofs.Common.{◌++◌, ◌+◌, ◌∙◌, ap, arith, drop}
use Rattle.t1_source.proofs.EditedItemsLaws.{remove-none, remove-parts}
use Rattle.t1_source.proofs.editing.edited_items.EditedItems.with_removed.Goals as goal

pub returns-then-len-at : goal.returns-then-len-at
returns-then-len-at c = c.all.ensures ∙ remove-none c.args.items.now c.args.at (omega (arith, c.if-len-at.true, c.len.ensures))

pub returns : goal.returns
returns c =
    let items = c.args.items.now in
    let before = c.split_at.result.0 in
    let after = drop (c.args.at + 1) items in
    ap (λ l. before ++ (c.none.result ++ l)) c.split_at-2.ensures.back
    ∙ ap (λ l. before ++ (l ++ after)) c.none.ensures
    ∙ ap (λ l. l ++ after) c.split_at.ensures.front
    ∙ remove-parts items c.args.at (omega (arith, c.if-len-at.false, c.len.ensures))
