use Rattle.std.proofs.Common.{arith, ◌∙◌, ◌-◌, ◌^◌, ap, length, min}
use Rattle.std.specs.Prelude.{sum_by}
use Rattle.t1_charstrings.specs.Beside.{bare_length, edited_keys}
use Rattle.t1_charstrings.specs.Kept.{charstring_at}
use Rattle.t1_charstrings.specs.Sums.{section_lines_text}
use Rattle.t1_charstrings.proofs.Parts.{batch_known}
use Rattle.t1_charstrings.proofs.batch.len_by_entries.Goals as goal

pub returns : goal.returns
returns c =
    let s = c.args.source.now in
    let made = c.args.made.now in
    let old = c.args.charstrings.now in
    let entries = c.args.entries.now in
    let known = c.requires.known in
    let by_old = ap (λ o. min (sum_by (bare_length (charstring_at old) o) (edited_keys entries)) (2 ^ 64 - 1)) c.operator-operator.ensures in
    let by_fresh = ap (λ o. min (sum_by (bare_length (charstring_at entries.fresh) o) (edited_keys entries)) (2 ^ 64 - 1)) c.operator-operator.ensures in
    let was = ap (λ is. min (length (section_lines_text is)) (2 ^ 64 - 1)) c.items.ensures in
    let now = ap (λ is. min (length (section_lines_text is)) (2 ^ 64 - 1)) c.items-2.ensures in
    batch_known s made old entries c.requires.edits c.requires.lead known.1.well known.1.file c.requires.operator
    c.edited_lines_len-old.ensures.subrs c.edited_lines_len-old.ensures.glyphs known.0 c.args.beside known.1.known known.1.kept
    c.edited_lines_len-old.result c.edited_lines_len-new.result c.sections_len.result c.sections_len-2.result c.saturating_add-2.result
    (c.edited_lines_len-old.ensures.len ∙ by_old) (c.edited_lines_len-new.ensures.len ∙ by_fresh) (c.sections_len.ensures ∙ was) (c.sections_len-2.ensures ∙ now)
    (omega arith)
