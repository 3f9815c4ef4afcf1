use Rattle.t1_disassemble.proofs.AlikeLaws.{items_alike}
use Rattle.t1_disassemble.proofs.laws.plain_spelling_assembles_alike.Goals as goal

pub returns : goal.returns
returns c = items_alike
