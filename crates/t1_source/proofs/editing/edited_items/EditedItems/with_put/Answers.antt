use Rattle.std.proofs.Common.{◌++◌, ◌∷◌, ◌+◌, ◌∙◌, ap, arith, drop}
use Rattle.t1_source.proofs.EditedItemsLaws.{put-none, put-parts}
use Rattle.t1_source.proofs.editing.edited_items.EditedItems.with_put.Goals as goal

pub returns-then-len-at : goal.returns-then-len-at
returns-then-len-at c = c.all.ensures ∙ put-none c.args.items.now c.args.at c.args.item.now (omega (arith, c.if-len-at.true, c.len.ensures))

pub returns : goal.returns
returns c =
    let items = c.args.items.now in
    let before = c.split_at.result.0 in
    let after = drop (c.args.at + 1) items in
    ap (λ l. before ++ (c.one.result ++ l)) c.split_at-2.ensures.back
    ∙ ap (λ l. before ++ (l ++ after)) c.one.ensures
    ∙ ap (λ l. l ++ (c.args.item.now ∷ after)) c.split_at.ensures.front
    ∙ put-parts items c.args.at c.args.item.now (omega (arith, c.if-len-at.false, c.len.ensures))
