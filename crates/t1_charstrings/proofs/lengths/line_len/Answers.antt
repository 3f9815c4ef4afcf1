use Rattle.std.proofs.Common.{◌∙◌, ◌-◌, ◌^◌, ap, length, min}
use Rattle.t1_charstrings.specs.Lines.{kept_entry_line}
use Rattle.t1_charstrings.proofs.lengths.line_len.Goals as goal

pub returns-in-Glyph : goal.returns-in-Glyph
returns-in-Glyph c =
    rw c.in-Glyph.is
    (c.kept_line_len-in-Glyph.ensures
    ∙ ap (λ r. min (length (kept_entry_line c.args.operator.now c.in-Glyph.closing.now r)) (2 ^ 64 - 1)) c.get-kept-in-Glyph.ensures.value)
