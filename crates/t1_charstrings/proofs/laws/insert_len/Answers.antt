use Rattle.t1_charstrings.proofs.Adding.{inserted_len}
use Rattle.t1_charstrings.proofs.laws.insert_len.Goals as goal

pub returns : goal.returns
returns c = inserted_len
