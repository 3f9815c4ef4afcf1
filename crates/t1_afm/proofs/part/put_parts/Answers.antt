use Rattle.std.proofs.Common.{◌<◌, length, arith}
use Rattle.std.proofs.lemmas.Result.{err_from_is_err_and}
use Rattle.t1_code.proofs.Writing.{passing, Written-step, Written-fails}
use Rattle.t1_afm.proofs.WrittenLines.{parts_are}
use Rattle.t1_afm.proofs.part.put_parts.Goals as goal

pub returns-in_err-put : goal.returns-in_err-put
returns-in_err-put g c =
    let i = c.loop-part.part-index in
    let inside : i < length c.args.parts.now = omega arith in
    rw (err_from_is_err_and c.from_residual.result c.from_residual.ensures.1).1
    (Written-fails (passing g.W.Write.contents) _ _ c.put.new.outlet _ (g.P.Part.text c.part-item.result) _
    (rw (parts_are g.P.Part.text c.args.parts.now i c.part-item.result inside c.part-item.is) at c.loop-part.invariant) c.in_err-put.ensures)

pub loop-part-preserved : goal.loop-part-preserved
loop-part-preserved g c =
    let i = c.loop-part.part-index in
    let inside : i < length c.args.parts.now = omega arith in
    Written-step (passing g.W.Write.contents) _ _ c.put.new.outlet _ (g.P.Part.text c.part-item.result) _
    (rw (parts_are g.P.Part.text c.args.parts.now i c.part-item.result inside c.part-item.is) at c.loop-part.invariant) c.in_ok-put.ensures
