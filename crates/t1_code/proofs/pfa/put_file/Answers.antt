use Rattle.std.proofs.lemmas.Result.{err_from_is_err_and}
use Rattle.t1_code.specs.Parts.{pieces_text}
use Rattle.t1_code.proofs.Framing.{hexadecimal_parts}
use Rattle.t1_code.proofs.Writing.{passing, Written-from, Written-step, Written-fails, Written-last}
use Rattle.t1_code.proofs.pfa.put_file.Goals as goal

pub returns-in_err-put : goal.returns-in_err-put
returns-in_err-put g c =
    let parts = c.args.parts.now in
    let a = c.args.outlet.now in
    let p = err_from_is_err_and c.from_residual.result c.from_residual.ensures.1 in
    let start = Written-from (passing g.W.Write.contents) a _ _ (hexadecimal_parts parts.clear.now (pieces_text parts) parts.trailer.now) in
    rw p.1 (Written-fails (passing g.W.Write.contents) a a c.put.new.self _ _ _ start c.in_err-put.ensures)

pub returns-in_err-put_digits : goal.returns-in_err-put_digits
returns-in_err-put_digits g c =
    let parts = c.args.parts.now in
    let a = c.args.outlet.now in
    let b = c.put.new.self in
    let p = err_from_is_err_and c.from_residual-in_err-put_digits.result c.from_residual-in_err-put_digits.ensures.1 in
    let start = Written-from (passing g.W.Write.contents) a _ _ (hexadecimal_parts parts.clear.now (pieces_text parts) parts.trailer.now) in
    let cleared = Written-step (passing g.W.Write.contents) a a b _ _ _ start c.in_ok-put.ensures in
    rw p.1 (Written-fails (passing g.W.Write.contents) a b c.put_digits.new.outlet _ _ _ cleared c.in_err-put_digits.ensures)

pub returns : goal.returns
returns g c =
    let parts = c.args.parts.now in
    let a = c.args.outlet.now in
    let b = c.put.new.self in
    let d = c.put_digits.new.outlet in
    let start = Written-from (passing g.W.Write.contents) a _ _ (hexadecimal_parts parts.clear.now (pieces_text parts) parts.trailer.now) in
    let cleared = Written-step (passing g.W.Write.contents) a a b _ _ _ start c.in_ok-put.ensures in
    let lined = Written-step (passing g.W.Write.contents) a b d _ _ _ cleared c.in_ok-put_digits.ensures in
    Written-last (passing g.W.Write.contents) c.put-2.result a d c.put-2.new.self _ _ lined c.put-2.ensures
