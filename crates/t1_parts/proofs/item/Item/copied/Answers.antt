use Rattle.t1_parts.proofs.item.Item.copied.Goals as goal

pub returns-in-Section : goal.returns-in-Section
returns-in-Section c = rw c.in-Section.is c.copied_section.ensures

pub returns-in-Subr : goal.returns-in-Subr
returns-in-Subr c = rw c.in-Subr.is c.copied_subr.ensures

pub returns-in-Glyph : goal.returns-in-Glyph
returns-in-Glyph c = rw c.in-Glyph.is c.copied_glyph.ensures
