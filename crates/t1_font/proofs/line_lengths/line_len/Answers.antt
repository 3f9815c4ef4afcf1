use Rattle.std.proofs.Common.{◌∷◌, ◌++◌, codes, decimal, length, ap, arith}
use Rattle.std.proofs.lemmas.Result.{err_from_is_err_and}
use Rattle.t1_frac.specs.Ascii.{slash}
use Rattle.t1_frac.specs.declared.fault.Place.TheVariants as places
use Rattle.t1_font.proofs.PrivateLaws.{entry_len, entry_refused}
use Rattle.t1_font.proofs.line_lengths.line_len.Goals as goal

pub returns-in_err-charstring-in-Subr : goal.returns-in_err-charstring-in-Subr
returns-in_err-charstring-in-Subr c =
    let p = err_from_is_err_and c.from_residual.result c.from_residual.ensures.1 in
    rw (p.1, p.2, c.in-Subr.is)
    (entry_refused c.args.lead c.args.operator.now (places.Subr c.in-Subr.number) (codes "dup " ++ decimal c.in-Subr.number) c.in-Subr.words.now c.in-Subr.closing.now
    c.in_err-charstring-in-Subr.field-0.0 c.in_err-charstring-in-Subr.ensures)

pub returns-in_err-charstring-in-Glyph : goal.returns-in_err-charstring-in-Glyph
returns-in_err-charstring-in-Glyph c =
    let p = err_from_is_err_and c.from_residual-in_err-charstring-in-Glyph.result c.from_residual-in_err-charstring-in-Glyph.ensures.1 in
    rw (p.1, p.2, c.in-Glyph.is)
    (entry_refused c.args.lead c.args.operator.now (places.Glyph c.in-Glyph.name.now) (slash ∷ c.in-Glyph.name.now) c.in-Glyph.words.now c.in-Glyph.closing.now
    c.in_err-charstring-in-Glyph.field-0.0 c.in_err-charstring-in-Glyph.ensures)

pub returns-in_ok-charstring-in-Subr : goal.returns-in_ok-charstring-in-Subr
returns-in_ok-charstring-in-Subr c =
    let head = codes "dup " ++ decimal c.in-Subr.number in
    rw c.in-Subr.is
    (entry_len c.args.lead c.args.operator.now (places.Subr c.in-Subr.number) head c.in-Subr.words.now c.in-Subr.closing.now c.in_ok-charstring-in-Subr.charstring c.entry_line_len.result
    c.in_ok-charstring-in-Subr.ensures (λ code. c.entry_line_len.ensures head code (omega (arith, ap length c.format.ensures.text))))

pub returns-in_ok-charstring-in-Glyph : goal.returns-in_ok-charstring-in-Glyph
returns-in_ok-charstring-in-Glyph c =
    let head = slash ∷ c.in-Glyph.name.now in
    rw c.in-Glyph.is
    (entry_len c.args.lead c.args.operator.now (places.Glyph c.in-Glyph.name.now) head c.in-Glyph.words.now c.in-Glyph.closing.now c.in_ok-charstring-in-Glyph.charstring c.entry_line_len-in-Glyph.result
    c.in_ok-charstring-in-Glyph.ensures (λ code. c.entry_line_len-in-Glyph.ensures head code (omega (arith, c.saturating_add-head.ensures))))
