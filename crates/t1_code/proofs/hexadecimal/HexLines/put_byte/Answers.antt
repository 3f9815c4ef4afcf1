use Rattle.std.proofs.lemmas.Result.{err_from_is_err_and}
use Rattle.t1_code.proofs.Digits.{byte_in_line}
use Rattle.t1_code.proofs.Writing.{passing, Written-from, Written-step, Written-fails, Written-last}
use Rattle.t1_code.proofs.hexadecimal.HexLines.put_byte.Goals as goal

pub returns-in_err-end_full-clause-text : goal.returns-in_err-end_full-clause-text
returns-in_err-end_full-clause-text g c =
    let a = c.args.outlet.now in
    let p = err_from_is_err_and c.from_residual.result c.from_residual.ensures.1 in
    let start = Written-from (passing g.W.Write.contents) a _ _ (byte_in_line c.args.self.now.room c.args.byte).0 in
    rw p.1 (Written-fails (passing g.W.Write.contents) a a c.end_full.new.outlet _ _ _ start c.in_err-end_full.ensures.text)

pub returns-clause-text : goal.returns-clause-text
returns-clause-text g c =
    let a = c.args.outlet.now in
    let b = c.end_full.new.outlet in
    let start = Written-from (passing g.W.Write.contents) a _ _ (byte_in_line c.args.self.now.room c.args.byte).0 in
    let ended = Written-step (passing g.W.Write.contents) a a b _ _ _ start c.in_ok-end_full.ensures.text in
    Written-last (passing g.W.Write.contents) c.put.result a b c.put.new.self _ _ ended (rw c.digits.ensures at c.put.ensures)
