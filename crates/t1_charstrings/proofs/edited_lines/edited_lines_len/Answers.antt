use Rattle.std.proofs.Common.{ap, arith, map}
use Rattle.std.specs.Prelude.{sum_by}
use Rattle.t1_font.specs.OwnedKeys.{key_of}
use Rattle.t1_charstrings.specs.Beside.{bare_length, glyph_keys, subr_keys}
use Rattle.t1_charstrings.specs.Kept.{charstring_at}
use Rattle.t1_charstrings.proofs.KeySums.{sum_parts}
use Rattle.t1_charstrings.proofs.edited_lines.edited_lines_len.Goals as goal

pub returns-clause-len : goal.returns-clause-len
returns-clause-len c =
    let entries = c.args.entries.now in
    let f = bare_length (charstring_at c.args.charstrings.now) c.args.operator.now in
    let parts = sum_parts f (subr_keys entries.fresh.subrs.entries) (glyph_keys entries.fresh.glyphs.entries)
    (map key_of entries.gone.items) in
    let gone = ap (λ gone. sum_by f (map key_of gone)) c.deref.ensures.value in
    omega (arith, parts, gone, c.subrs_len-subrs.ensures.len, c.glyphs_len-glyphs.ensures.len, c.gone_len-gone.ensures, c.saturating_add.ensures, c.saturating_add-2.ensures)
