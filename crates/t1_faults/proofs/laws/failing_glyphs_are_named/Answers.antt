use Rattle.t1_faults.proofs.NamingLaws.{failing_named}
use Rattle.t1_faults.proofs.laws.failing_glyphs_are_named.Goals as goal

pub returns : goal.returns
returns c = failing_named
