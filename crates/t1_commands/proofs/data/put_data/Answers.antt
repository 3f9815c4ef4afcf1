use Rattle.std.proofs.lemmas.Result.{err_from_is_err_and}
use Rattle.t1_code.specs.Parts.{pieces_text}
use Rattle.t1_commands.proofs.Framed.{all_passes, end_fails, file_fails, head_fails}
use Rattle.t1_commands.proofs.data.put_data.Goals as goal

pub returns-in_err-put_head : goal.returns-in_err-put_head
returns-in_err-put_head g c =
    let parts = c.args.parts.now in
    let file = g.F.FileForm.file c.args.form.now parts.clear.now (pieces_text parts) parts.trailer.now in
    let p = err_from_is_err_and c.from_residual.result c.from_residual.ensures.1 in
    rw (p.1, p.2) (head_fails g.W.Write.contents c.args.outlet.now c.put_head.new.outlet file c.args.len c.requires c.in_err-put_head.ensures)

pub returns-in_err-put : goal.returns-in_err-put
returns-in_err-put g c =
    let parts = c.args.parts.now in
    let file = g.F.FileForm.file c.args.form.now parts.clear.now (pieces_text parts) parts.trailer.now in
    let p = err_from_is_err_and c.from_residual-in_err-put.result c.from_residual-in_err-put.ensures.1 in
    rw (p.1, p.2) (file_fails g.W.Write.contents c.args.outlet.now c.put_head.new.outlet file c.args.len c.requires
    c.put.new.outlet _ c.in_ok-put_head.ensures c.in_err-put.ensures)

pub returns-in_err-put-2 : goal.returns-in_err-put-2
returns-in_err-put-2 g c =
    let parts = c.args.parts.now in
    let file = g.F.FileForm.file c.args.form.now parts.clear.now (pieces_text parts) parts.trailer.now in
    let p = err_from_is_err_and c.from_residual-in_err-put-2.result c.from_residual-in_err-put-2.ensures.1 in
    rw (p.1, p.2) (end_fails g.W.Write.contents c.args.outlet.now c.put_head.new.outlet file c.args.len c.requires
    c.put.new.outlet c.put-2.new.self c.in_ok-put.field-0 c.in_ok-put_head.ensures c.in_ok-put.ensures c.in_err-put-2.ensures)

pub returns : goal.returns
returns g c =
    let parts = c.args.parts.now in
    let file = g.F.FileForm.file c.args.form.now parts.clear.now (pieces_text parts) parts.trailer.now in
    all_passes g.W.Write.contents c.args.outlet.now c.put_head.new.outlet file c.args.len c.requires
    c.put.new.outlet c.put-2.new.self c.in_ok-put.field-0 tt c.in_ok-put_head.ensures c.in_ok-put.ensures c.in_ok-put-2.ensures
