use Rattle.std.proofs.Common.{rules}
use Rattle.std.proofs.lemmas.Result.{err_from_is_err_and}
use Rattle.t1_code.proofs.Writing.{outlet_fails, outlet_sent}
use Rattle.t1_disassemble.proofs.packing.FontSource.write.Goals as goal

pub returns-in_err-put : goal.returns-in_err-put
returns-in_err-put g c = rw (err_from_is_err_and c.from_residual.result c.from_residual.ensures.1).1 (search (rules, outlet_fails g.W.Write.contents))

pub returns : goal.returns
returns g c = search (rules, outlet_sent g.W.Write.contents c.send.result)
