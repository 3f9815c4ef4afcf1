use Rattle.std.proofs.Common.{rules, ◌≡◌, [], length, ap, arith}
use Rattle.t1_charstrings.specs.Lines.{kept_lines_text}
use Rattle.t1_charstrings.proofs.lengths.items_len.Goals as goal

pub returns : goal.returns
returns c =
    let none : c.loop-item.item-iterator ≡ [] = search rules in
    omega (arith, ap (λ is. length (kept_lines_text c.args.charstrings.now c.args.operator.now is)) none, c.loop-item.invariant.3)
