use Rattle.t1_charstrings.proofs.Adding.{remove_len}
use Rattle.t1_charstrings.proofs.laws.remove_len.Goals as goal

pub returns : goal.returns
returns c = remove_len
