use Rattle.std.proofs.Common.{◌∙◌, sym}
use Rattle.std.proofs.lemmas.Result.{err_from_is_err_and}
use Rattle.t1_source.specs.EditedItems.{edited_items}
use Rattle.t1_source.specs.EditedSource.{made_of}
use Rattle.t1_charstrings.proofs.Entered.{counts_refused, file_passed, length_refused}
use Rattle.t1_charstrings.proofs.MadeItems.{counts_made, len_made}
use Rattle.t1_charstrings.proofs.anew.len_anew.Goals as goal

pub returns-in_err-check_parts-clause-judged : goal.returns-in_err-check_parts-clause-judged
returns-in_err-check_parts-clause-judged c =
    let m = made_of c.args.made.now in
    let need = c.in_ok-needed in
    let len = len_made (edited_items c.args.items.now) m c.requires.items c.args.charstrings.now need.needed.subrs need.needed.glyphs c.raised_len-len.result c.requires.well c.requires.kept
    need.ensures.subrs need.ensures.glyphs c.raised_len-len.ensures in
    let p = err_from_is_err_and c.from_residual-in_err-check_parts.result c.from_residual-in_err-check_parts.ensures.1 in
    rw (p.1, p.2) (length_refused m c.in_err-check_parts.field-0.0 (sym (c.in_err-check_parts.ensures m (sym c.clear.ensures) (sym c.tail.ensures) len)))

pub returns-in_err-check_raised_parts-clause-judged : goal.returns-in_err-check_raised_parts-clause-judged
returns-in_err-check_raised_parts-clause-judged c =
    let m = made_of c.args.made.now in
    let is = edited_items c.args.items.now in
    let need = c.in_ok-needed in
    let len = len_made is m c.requires.items c.args.charstrings.now need.needed.subrs need.needed.glyphs c.raised_len-len.result c.requires.well c.requires.kept
    need.ensures.subrs need.ensures.glyphs c.raised_len-len.ensures in
    let p = err_from_is_err_and c.from_residual-in_err-check_raised_parts.result c.from_residual-in_err-check_raised_parts.ensures.1 in
    rw (p.1, p.2)
    (counts_refused m c.in_err-check_raised_parts.field-0.0 (sym (c.in_ok-check_parts.ensures m (sym c.clear.ensures) (sym c.tail.ensures) len))
    (counts_made is m c.requires.items need.needed.subrs need.needed.glyphs need.ensures.subrs need.ensures.glyphs ∙ sym c.in_err-check_raised_parts.ensures))

pub returns-clause-judged : goal.returns-clause-judged
returns-clause-judged c =
    let m = made_of c.args.made.now in
    let is = edited_items c.args.items.now in
    let need = c.in_ok-needed in
    let len = len_made is m c.requires.items c.args.charstrings.now need.needed.subrs need.needed.glyphs c.raised_len-len.result c.requires.well c.requires.kept
    need.ensures.subrs need.ensures.glyphs c.raised_len-len.ensures in
    file_passed m (sym (c.in_ok-check_parts.ensures m (sym c.clear.ensures) (sym c.tail.ensures) len))
    (counts_made is m c.requires.items need.needed.subrs need.needed.glyphs need.ensures.subrs need.ensures.glyphs ∙ sym c.in_ok-check_raised_parts.ensures)

pub returns-clause-len : goal.returns-clause-len
returns-clause-len c =
    let need = c.in_ok-needed in
    len_made (edited_items c.args.items.now) (made_of c.args.made.now) c.requires.items c.args.charstrings.now need.needed.subrs need.needed.glyphs c.raised_len-len.result c.requires.well c.requires.kept
    need.ensures.subrs need.ensures.glyphs c.raised_len-len.ensures
