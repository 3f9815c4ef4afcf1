use Rattle.t1_held.proofs.Members.{same_edited}
use Rattle.t1_held.proofs.laws.same_edited.Goals as goal

pub returns : goal.returns
returns c = same_edited
