use Rattle.t1_afm.proofs.Sections.{values_are}
use Rattle.t1_afm.proofs.afm.put_values.Goals as goal

pub returns : goal.returns
returns g c = rw values_are at c.put_parts.ensures
