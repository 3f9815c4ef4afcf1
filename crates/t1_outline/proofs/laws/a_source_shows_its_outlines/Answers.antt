use Rattle.t1_outline.proofs.OfSources.{stored, glyph-shown, other-shown}
use Rattle.t1_outline.proofs.laws.a_source_shows_its_outlines.Goals as goal

pub returns-clause-stored : goal.returns-clause-stored
returns-clause-stored c = stored

pub returns-clause-glyph_shown : goal.returns-clause-glyph_shown
returns-clause-glyph_shown c = glyph-shown

pub returns-clause-other_shown : goal.returns-clause-other_shown
returns-clause-other_shown c = other-shown
