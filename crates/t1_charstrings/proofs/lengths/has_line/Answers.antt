use Rattle.t1_charstrings.proofs.lengths.has_line.Goals as goal

pub returns-in-Glyph : goal.returns-in-Glyph
returns-in-Glyph c = rw c.in-Glyph.is c.contains_key-in-Glyph.ensures
