use Rattle.std.proofs.Common.{◌++◌, arith}
use Rattle.t1_charstrings.proofs.MadeItems.{text-parts}
use Rattle.t1_charstrings.proofs.encrypted_items.raised_len.Goals as goal

pub returns : goal.returns
returns c =
    let s = c.args.items.now in
    let n = c.args.needed.now in
    let o = c.operator-operator.result.now in
    rw (← c.operator-operator.ensures)
    (omega (
      arith,
      c.saturating_add-2.ensures,
      c.saturating_add.ensures,
      c.raised_items_len.ensures,
      c.raised_items_len-put.ensures,
      c.raised_items_len-after.ensures,
      text-parts c.args.charstrings.now o n.subrs n.glyphs s.before (s.put ++ s.after),
      text-parts c.args.charstrings.now o n.subrs n.glyphs s.put s.after,
    ))
