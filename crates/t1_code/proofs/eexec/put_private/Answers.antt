use Rattle.std.specs.List.{flat_map}
use Rattle.std.proofs.lemmas.Result.{err_from_is_err_and}
use Rattle.t1_code.specs.Parts.{piece_text}
use Rattle.t1_code.proofs.Enciphering.{eexec_parts}
use Rattle.t1_code.proofs.Writing.{passing, Written-from, Written-step, Written-fails, Written-last}
use Rattle.t1_code.proofs.eexec.put_private.Goals as goal

pub returns-in_err-put : goal.returns-in_err-put
returns-in_err-put g c =
    let a = c.args.outlet.now in
    let p = err_from_is_err_and c.from_residual.result c.from_residual.ensures.1 in
    let start = Written-from (passing g.W.Write.contents) a _ _ (eexec_parts c.args.form (flat_map piece_text c.args.pieces.now)) in
    rw p.1 (Written-fails (passing g.W.Write.contents) a a c.put.new.outlet _ _ _ start (rw (c.new-writer.ensures.key, c.new-writer.ensures.form) at c.in_err-put.ensures.text))

pub returns : goal.returns
returns g c =
    let a = c.args.outlet.now in
    let b = c.put.new.outlet in
    let start = Written-from (passing g.W.Write.contents) a _ _ (eexec_parts c.args.form (flat_map piece_text c.args.pieces.now)) in
    let led = Written-step (passing g.W.Write.contents) a a b _ _ _ start (rw (c.new-writer.ensures.key, c.new-writer.ensures.form) at c.in_ok-put.ensures.text) in
    Written-last (passing g.W.Write.contents) c.put_pieces.result a b c.put_pieces.new.outlet _ _ led
    (rw (c.in_ok-put.ensures.state, c.new-writer.ensures.key, c.new-writer.ensures.form) at c.put_pieces.ensures.text)
