use Rattle.t1_charstrings.proofs.Adding.{put_len}
use Rattle.t1_charstrings.proofs.laws.put_len.Goals as goal

pub returns : goal.returns
returns c = put_len
