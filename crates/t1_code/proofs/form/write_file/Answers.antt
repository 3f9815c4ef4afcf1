use Rattle.t1_code.specs.Parts.{pieces_text}
use Rattle.t1_code.proofs.Writing.{file_fails, file_unsent, file_sent}
use Rattle.t1_code.proofs.form.write_file.Goals as goal
use Rattle.std.proofs.Common.{rules}
use Rattle.std.proofs.lemmas.Result.{err_from_is_err_and}

pub returns-in_err-put-clause-prints : goal.returns-in_err-put-clause-prints
returns-in_err-put-clause-prints g c =
    let parts = c.args.parts.now in
    let file = g.F.FileForm.file c.args.form.now parts.clear.now (pieces_text parts) parts.trailer.now in
    let p = err_from_is_err_and c.from_residual.result c.from_residual.ensures.1 in
    rw (p.1, p.2) (file_fails g.W.Write.contents _ c.new-outlet.result c.put.new.outlet file c.new-outlet.ensures.out c.new-outlet.ensures.waiting c.in_err-put.field-0.0 _ c.in_err-put.ensures (search rules))

pub returns-in_err-send-clause-prints : goal.returns-in_err-send-clause-prints
returns-in_err-send-clause-prints g c =
    let parts = c.args.parts.now in
    let file = g.F.FileForm.file c.args.form.now parts.clear.now (pieces_text parts) parts.trailer.now in
    let p = err_from_is_err_and c.from_residual-in_err-send.result c.from_residual-in_err-send.ensures.1 in
    rw (p.1, p.2) (file_unsent g.W.Write.contents _ c.new-outlet.result c.put.new.outlet file c.new-outlet.ensures.out c.new-outlet.ensures.waiting c.send.new.self _
    c.in_ok-put.ensures c.in_err-send.ensures.text (search rules))

pub returns-clause-prints : goal.returns-clause-prints
returns-clause-prints g c =
    let parts = c.args.parts.now in
    let file = g.F.FileForm.file c.args.form.now parts.clear.now (pieces_text parts) parts.trailer.now in
    file_sent g.W.Write.contents _ c.new-outlet.result c.put.new.outlet file c.new-outlet.ensures.out c.new-outlet.ensures.waiting c.send.new.self _
    c.in_ok-put.ensures c.in_ok-send.ensures.text c.in_ok-send.ensures.empty (search rules)
