use Rattle.std.proofs.Common.{rules, ◌≡◌, [], length, ap, arith}
use Rattle.t1_charstrings.specs.Batch.{fresh_over, text_by}
use Rattle.t1_charstrings.proofs.batch.batch_items_len.Goals as goal

pub returns : goal.returns
returns c =
    let none : c.loop-item.item-iterator ≡ [] = search rules in
    omega (arith, ap (λ is. length (text_by (fresh_over c.args.fresh.now c.args.charstrings.now) c.args.operator.now is)) none, c.loop-item.invariant.3)
