use Rattle.std.proofs.Common.{◌∷◌, ◌++◌, codes, decimal, length, ap, arith}
use Rattle.t1_frac.specs.declared.fault.Place.TheVariants as places
use Rattle.t1_font.proofs.LengthLaws.{entry_within}
use Rattle.t1_font.proofs.lengths.max_line_len.Goals as goal

pub returns-in-Subr : goal.returns-in-Subr
returns-in-Subr c short =
    rw c.in-Subr.is (entry_within c.args.lead c.args.operator.now (places.Subr c.in-Subr.number) (codes "dup " ++ decimal c.in-Subr.number) c.in-Subr.words.now c.in-Subr.closing.now c.max_entry_len.result
    (omega arith) short (omega (arith, c.max_entry_len.ensures short, ap length c.format.ensures.text)))

pub returns-in-Glyph : goal.returns-in-Glyph
returns-in-Glyph c short =
    rw c.in-Glyph.is (entry_within c.args.lead c.args.operator.now (places.Glyph c.in-Glyph.name.now) (47 ∷ c.in-Glyph.name.now) c.in-Glyph.words.now c.in-Glyph.closing.now c.max_entry_len-in-Glyph.result
    (omega arith) short (omega (arith, c.max_entry_len-in-Glyph.ensures short)))
