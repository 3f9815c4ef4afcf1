use Rattle.std.proofs.Common.{sym}
use Rattle.std.proofs.lemmas.Result.{err_from_is_err_and}
use Rattle.t1_code.proofs.Writing.{passing, Written-from, Written-step, Written-fails, Written-last}
use Rattle.t1_disassemble.proofs.packing.FontSource.put.Goals as goal

pub returns-in_err-put : goal.returns-in_err-put
returns-in_err-put g c =
    let a = c.args.outlet.now in
    let start = Written-from (passing g.W.Write.contents) a c.args.self.now _ (sym c.self.view_is) in
    rw (err_from_is_err_and c.from_residual.result c.from_residual.ensures.1).1
    (Written-fails (passing g.W.Write.contents) a a c.put.new.self _ _ _ start (rw c.deref.ensures.value at c.in_err-put.ensures))

pub returns : goal.returns
returns g c =
    let a = c.args.outlet.now in
    let b = c.put.new.self in
    let start = Written-from (passing g.W.Write.contents) a c.args.self.now _ (sym c.self.view_is) in
    Written-last (passing g.W.Write.contents) c.put-2.result a b c.put-2.new.outlet _ _
    (Written-step (passing g.W.Write.contents) a a b _ _ _ start (rw c.deref.ensures.value at c.in_ok-put.ensures)) c.put-2.ensures
