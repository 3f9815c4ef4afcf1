use Rattle.t1_run.proofs.FoundByUsers.{found_are_touched}
use Rattle.t1_run.proofs.laws.found_by_users.Goals as goal

pub returns : goal.returns
returns c = found_are_touched
