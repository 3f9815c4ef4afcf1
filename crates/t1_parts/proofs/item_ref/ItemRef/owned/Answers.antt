use Rattle.t1_parts.proofs.item_ref.ItemRef.owned.Goals as goal

pub returns-in-Section : goal.returns-in-Section
returns-in-Section c = rw c.in-Section.is c.owned_section.ensures

pub returns-in-Subr : goal.returns-in-Subr
returns-in-Subr c = rw c.in-Subr.is c.owned_subr.ensures

pub returns-in-Glyph : goal.returns-in-Glyph
returns-in-Glyph c = rw c.in-Glyph.is c.owned_glyph.ensures
