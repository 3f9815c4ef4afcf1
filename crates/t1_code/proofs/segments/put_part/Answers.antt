use Rattle.std.proofs.lemmas.Result.{err_from_is_err_and}
use Rattle.t1_code.proofs.Segmenting.{segments_are}
use Rattle.t1_code.proofs.Writing.{passing, Written-from, Written-step, Written-fails, Written-last}
use Rattle.t1_code.proofs.segments.put_part.Goals as goal

pub returns-in_err-segmenter : goal.returns-in_err-segmenter
returns-in_err-segmenter g c =
    let a = c.args.outlet.now in
    let p = err_from_is_err_and c.from_residual.result c.from_residual.ensures.1 in
    let start = Written-from (passing g.W.Write.contents) a _ _ (segments_are c.args.size c.args.kind c.args.bytes.now c.has_bytes.ensures) in
    rw p.1 (Written-fails (passing g.W.Write.contents) a a c.begin.new.outlet _ _ _ start c.in_err-segmenter.ensures.text)

pub returns : goal.returns
returns g c =
    let a = c.args.outlet.now in
    let b = c.begin.new.outlet in
    let start = Written-from (passing g.W.Write.contents) a _ _ (segments_are c.args.size c.args.kind c.args.bytes.now c.has_bytes.ensures) in
    let headed = Written-step (passing g.W.Write.contents) a a b _ _ _ start c.in_ok-segmenter.ensures.text in
    Written-last (passing g.W.Write.contents) c.put.result a b c.put.new.outlet _ _ headed (rw c.in_ok-segmenter.ensures.state at c.put.ensures.text)
