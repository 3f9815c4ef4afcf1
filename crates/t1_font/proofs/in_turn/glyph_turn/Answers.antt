use Rattle.std.proofs.Common.{◌∙◌}
use Rattle.t1_font.proofs.in_turn.glyph_turn.Goals as goal

pub returns-clause-row : goal.returns-clause-row
returns-clause-row g c = λ run. λ h. c.in_ok-row_of.ensures.row run (h ∙ c.in_ok-kept.ensures.kept)
