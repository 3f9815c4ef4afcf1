use Rattle.std.proofs.lemmas.Result.{err_from_is_err_and}
use Rattle.t1_code.specs.Parts.{pieces_text}
use Rattle.t1_code.proofs.Framing.{file_parts}
use Rattle.t1_code.proofs.Writing.{passing, Written-from, Written-step, Written-fails, Written-last}
use Rattle.t1_code.proofs.form.put_file.Goals as goal

pub returns-in_err-put_part : goal.returns-in_err-put_part
returns-in_err-put_part g c =
    let parts = c.args.parts.now in
    let a = c.args.outlet.now in
    let start = Written-from (passing g.W.Write.contents) a _ _ (file_parts c.args.size parts.clear.now (pieces_text parts) parts.trailer.now c.has_bytes.ensures) in
    let p = err_from_is_err_and c.from_residual.result c.from_residual.ensures.1 in
    rw p.1 (Written-fails (passing g.W.Write.contents) a a c.put_part.new.outlet _ _ _ start c.in_err-put_part.ensures)

pub returns-in_err-segmenter : goal.returns-in_err-segmenter
returns-in_err-segmenter g c =
    let parts = c.args.parts.now in
    let a = c.args.outlet.now in
    let start = Written-from (passing g.W.Write.contents) a _ _ (file_parts c.args.size parts.clear.now (pieces_text parts) parts.trailer.now c.has_bytes.ensures) in
    let b = c.put_part.new.outlet in
    let cleared = Written-step (passing g.W.Write.contents) a a b _ _ _ start c.in_ok-put_part.ensures in
    let p = err_from_is_err_and c.from_residual-in_err-segmenter.result c.from_residual-in_err-segmenter.ensures.1 in
    rw p.1 (Written-fails (passing g.W.Write.contents) a b c.begin.new.outlet _ _ _ cleared (rw c.requires at c.in_err-segmenter.ensures.text))

pub returns-in_err-put_private : goal.returns-in_err-put_private
returns-in_err-put_private g c =
    let parts = c.args.parts.now in
    let a = c.args.outlet.now in
    let start = Written-from (passing g.W.Write.contents) a _ _ (file_parts c.args.size parts.clear.now (pieces_text parts) parts.trailer.now c.has_bytes.ensures) in
    let b = c.put_part.new.outlet in
    let cleared = Written-step (passing g.W.Write.contents) a a b _ _ _ start c.in_ok-put_part.ensures in
    let d = c.begin.new.outlet in
    let headed = Written-step (passing g.W.Write.contents) a b d _ _ _ cleared (rw c.requires at c.in_ok-segmenter.ensures.text) in
    let p = err_from_is_err_and c.from_residual-in_err-put_private.result c.from_residual-in_err-put_private.ensures.1 in
    rw p.1 (Written-fails (passing g.W.Write.contents) a d c.put_private.new.outlet _ _ _ headed (rw (c.in_ok-segmenter.ensures.state, c.requires) at c.in_err-put_private.ensures))

pub returns-in_err-put_part-2 : goal.returns-in_err-put_part-2
returns-in_err-put_part-2 g c =
    let parts = c.args.parts.now in
    let a = c.args.outlet.now in
    let start = Written-from (passing g.W.Write.contents) a _ _ (file_parts c.args.size parts.clear.now (pieces_text parts) parts.trailer.now c.has_bytes.ensures) in
    let b = c.put_part.new.outlet in
    let cleared = Written-step (passing g.W.Write.contents) a a b _ _ _ start c.in_ok-put_part.ensures in
    let d = c.begin.new.outlet in
    let headed = Written-step (passing g.W.Write.contents) a b d _ _ _ cleared (rw c.requires at c.in_ok-segmenter.ensures.text) in
    let e = c.put_private.new.outlet in
    let cut = Written-step (passing g.W.Write.contents) a d e _ _ _ headed (rw (c.in_ok-segmenter.ensures.state, c.requires) at c.in_ok-put_private.ensures) in
    let p = err_from_is_err_and c.from_residual-in_err-put_part-2.result c.from_residual-in_err-put_part-2.ensures.1 in
    rw p.1 (Written-fails (passing g.W.Write.contents) a e c.put_part-2.new.outlet _ _ _ cut c.in_err-put_part-2.ensures)

pub returns : goal.returns
returns g c =
    let parts = c.args.parts.now in
    let a = c.args.outlet.now in
    let start = Written-from (passing g.W.Write.contents) a _ _ (file_parts c.args.size parts.clear.now (pieces_text parts) parts.trailer.now c.has_bytes.ensures) in
    let b = c.put_part.new.outlet in
    let cleared = Written-step (passing g.W.Write.contents) a a b _ _ _ start c.in_ok-put_part.ensures in
    let d = c.begin.new.outlet in
    let headed = Written-step (passing g.W.Write.contents) a b d _ _ _ cleared (rw c.requires at c.in_ok-segmenter.ensures.text) in
    let e = c.put_private.new.outlet in
    let cut = Written-step (passing g.W.Write.contents) a d e _ _ _ headed (rw (c.in_ok-segmenter.ensures.state, c.requires) at c.in_ok-put_private.ensures) in
    let f = c.put_part-2.new.outlet in
    let trailed = Written-step (passing g.W.Write.contents) a e f _ _ _ cut c.in_ok-put_part-2.ensures in
    Written-last (passing g.W.Write.contents) c.put.result a f c.put.new.self _ _ trailed c.put.ensures
