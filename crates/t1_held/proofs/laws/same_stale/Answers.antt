use Rattle.t1_held.proofs.Members.{same_stale, same_stale_glyphs}
use Rattle.t1_held.proofs.laws.same_stale.Goals as goal

pub returns-clause-each : goal.returns-clause-each
returns-clause-each c = same_stale

pub returns-clause-glyphs : goal.returns-clause-glyphs
returns-clause-glyphs c = same_stale_glyphs
