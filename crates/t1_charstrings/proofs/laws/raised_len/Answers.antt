use Rattle.t1_charstrings.proofs.Adding.{raised_len}
use Rattle.t1_charstrings.proofs.laws.raised_len.Goals as goal

pub returns : goal.returns
returns c = raised_len
