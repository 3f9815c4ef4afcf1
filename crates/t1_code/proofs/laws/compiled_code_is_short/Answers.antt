use Rattle.t1_code.proofs.Lengths.{compiled_short}
use Rattle.t1_code.proofs.laws.compiled_code_is_short.Goals as goal

pub returns : goal.returns
returns c = compiled_short
