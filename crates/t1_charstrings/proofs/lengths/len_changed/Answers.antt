use Rattle.std.proofs.Common.{◌≡◌, ◌∙◌, ap, sym, subst}
use Rattle.std.proofs.lemmas.Result.{err_from_is_err_and}
use Rattle.t1_source.specs.Changes.{made_after, put_by, taken_by}
use Rattle.t1_font.specs.Assembly.{counts_check}
use Rattle.t1_font.specs.Lengths.{IsPrivateLen}
use Rattle.t1_charstrings.specs.Raising.{raised_check}
use Rattle.t1_charstrings.specs.Ready.{IsNeeded}
use Rattle.t1_charstrings.proofs.ChangedLengths.{changed_counted, changed_counts, changed_known, tail_after}
use Rattle.t1_charstrings.proofs.Entered.{counts_refused, file_ok, file_passed, length_refused}
use Rattle.t1_charstrings.proofs.GlyphCounts.{glyphs_fit}
use Rattle.t1_charstrings.proofs.lengths.len_changed.Goals as goal

pub needed_after-needed-requires : goal.needed_after-needed-requires
needed_after-needed-requires c = glyphs_fit c.args.source.now c.args.private_len c.requires.prepared.file c.requires.prepared.known

pub returns-in_err-check_parts-clause-judged : goal.returns-in_err-check_parts-clause-judged
returns-in_err-check_parts-clause-judged c =
    let s = c.args.source.now in
    let change = c.args.change.now in
    let need = c.requires in
    let made = made_after change s in
    let known : IsPrivateLen made c.edited_len-len.result =
    changed_known s c.args.charstrings.now c.args.private_len c.args.entries.now change need.prepared need.entry need.edits
    c.needed_after-needed.result c.needed_after-needed.ensures c.edited_len-len.result c.edited_len-len.ensures in
    let p = err_from_is_err_and c.from_residual.result c.from_residual.ensures.1 in
    rw (p.1, p.2) (length_refused made c.in_err-check_parts.field-0.0
    (sym (c.in_err-check_parts.ensures made (sym c.clear_after.ensures) (tail_after change s ∙ sym c.tail.ensures) known)))

pub returns-in_default-clause-judged : goal.returns-in_default-clause-judged
returns-in_default-clause-judged c =
    let s = c.args.source.now in
    let change = c.args.change.now in
    let kept = c.args.charstrings.now in
    let need = c.requires in
    let made = made_after change s in
    let known : IsPrivateLen made c.edited_len-len.result =
    changed_known s kept c.args.private_len c.args.entries.now change need.prepared need.entry need.edits
    c.needed_after-needed.result c.needed_after-needed.ensures c.edited_len-len.result c.edited_len-len.ensures in
    let none = subst (IsNeeded (taken_by change) (put_by change) s) c.in_default.is c.needed_after-needed.ensures in
    file_ok made (sym (c.in_ok-check_parts.ensures made (sym c.clear_after.ensures) (tail_after change s ∙ sym c.tail.ensures) known))
    (changed_counted s kept c.args.private_len c.args.entries.now change need.prepared need.entry need.edits none)

pub returns-in_default-clause-len : goal.returns-in_default-clause-len
returns-in_default-clause-len c =
    let need = c.requires in
    changed_known c.args.source.now c.args.charstrings.now c.args.private_len c.args.entries.now c.args.change.now need.prepared need.entry need.edits
    c.needed_after-needed.result c.needed_after-needed.ensures c.edited_len-len.result c.edited_len-len.ensures

pub returns-in_err-check_raised_sections-clause-judged : goal.returns-in_err-check_raised_sections-clause-judged
returns-in_err-check_raised_sections-clause-judged c =
    let s = c.args.source.now in
    let change = c.args.change.now in
    let kept = c.args.charstrings.now in
    let need = c.requires in
    let made = made_after change s in
    let known : IsPrivateLen made c.edited_len-len.result =
    changed_known s kept c.args.private_len c.args.entries.now change need.prepared need.entry need.edits
    c.needed_after-needed.result c.needed_after-needed.ensures c.edited_len-len.result c.edited_len-len.ensures in
    let some = subst (IsNeeded (taken_by change) (put_by change) s) c.in-Some.is c.needed_after-needed.ensures in
    let counts : counts_check made.items ≡ raised_check c.in-Some.needed.subrs c.in-Some.needed.glyphs c.items.result.now =
    changed_counts s kept c.args.private_len c.args.entries.now change need.prepared need.entry need.edits c.in-Some.needed some
    ∙ ap (raised_check c.in-Some.needed.subrs c.in-Some.needed.glyphs) (sym c.items.ensures) in
    let short = sym (c.in_ok-check_parts.ensures made (sym c.clear_after.ensures) (tail_after change s ∙ sym c.tail.ensures) known) in
    let p = err_from_is_err_and c.from_residual-in_err-check_raised_sections.result c.from_residual-in_err-check_raised_sections.ensures.1 in
    rw (p.1, p.2) (counts_refused made c.in_err-check_raised_sections.field-0.0 short (counts ∙ sym c.in_err-check_raised_sections.ensures))

pub returns-clause-judged : goal.returns-clause-judged
returns-clause-judged c =
    let s = c.args.source.now in
    let change = c.args.change.now in
    let kept = c.args.charstrings.now in
    let need = c.requires in
    let made = made_after change s in
    let known : IsPrivateLen made c.edited_len-len.result =
    changed_known s kept c.args.private_len c.args.entries.now change need.prepared need.entry need.edits
    c.needed_after-needed.result c.needed_after-needed.ensures c.edited_len-len.result c.edited_len-len.ensures in
    let some = subst (IsNeeded (taken_by change) (put_by change) s) c.in-Some.is c.needed_after-needed.ensures in
    let counts : counts_check made.items ≡ raised_check c.in-Some.needed.subrs c.in-Some.needed.glyphs c.items.result.now =
    changed_counts s kept c.args.private_len c.args.entries.now change need.prepared need.entry need.edits c.in-Some.needed some
    ∙ ap (raised_check c.in-Some.needed.subrs c.in-Some.needed.glyphs) (sym c.items.ensures) in
    let short = sym (c.in_ok-check_parts.ensures made (sym c.clear_after.ensures) (tail_after change s ∙ sym c.tail.ensures) known) in
    file_passed made short (counts ∙ sym c.in_ok-check_raised_sections.ensures)

pub returns-clause-len : goal.returns-clause-len
returns-clause-len c =
    let need = c.requires in
    changed_known c.args.source.now c.args.charstrings.now c.args.private_len c.args.entries.now c.args.change.now need.prepared need.entry need.edits
    c.needed_after-needed.result c.needed_after-needed.ensures c.edited_len-len.result c.edited_len-len.ensures
