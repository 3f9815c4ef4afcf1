use Rattle.t1_faults.proofs.TellingLaws.{glyph_is_named}
use Rattle.t1_faults.proofs.laws.reported_glyph_is_named.Goals as goal

pub returns : goal.returns
returns c = glyph_is_named
