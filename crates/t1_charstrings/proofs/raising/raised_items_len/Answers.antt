use Rattle.std.proofs.Common.{rules, ◌≡◌, [], length, map, ap, arith}
use Rattle.t1_parts.specs.Counts.{raised_item}
use Rattle.t1_charstrings.specs.Lines.{kept_lines_text}
use Rattle.t1_charstrings.proofs.raising.raised_items_len.Goals as goal

pub returns : goal.returns
returns c =
    let n = c.args.needed.now in
    let none : c.loop-item.item-iterator ≡ [] = search rules in
    omega (arith, ap (λ is. length (kept_lines_text c.args.charstrings.now c.args.operator.now (map (raised_item n.subrs n.glyphs) is))) none, c.loop-item.invariant.3)
