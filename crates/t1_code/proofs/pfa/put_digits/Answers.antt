use Rattle.std.specs.List.{flat_map}
use Rattle.std.proofs.lemmas.Result.{err_from_is_err_and}
use Rattle.t1_code.specs.Cipher.{eexec}
use Rattle.t1_code.specs.Parts.{piece_text}
use Rattle.t1_code.proofs.Digits.{lines_are}
use Rattle.t1_code.proofs.Writing.{passing, Written-from, Written-step, Written-fails, Written-last}
use Rattle.t1_code.proofs.pfa.put_digits.Goals as goal

pub returns-in_err-put_private : goal.returns-in_err-put_private
returns-in_err-put_private g c =
    let a = c.args.outlet.now in
    let p = err_from_is_err_and c.from_residual.result c.from_residual.ensures.1 in
    let start = Written-from (passing g.W.Write.contents) a _ _ (lines_are (eexec (flat_map piece_text c.args.pieces.now))) in
    rw p.1 (Written-fails (passing g.W.Write.contents) a a c.put_private.new.outlet _ _ _ start (rw c.new.ensures at c.in_err-put_private.ensures))

pub returns : goal.returns
returns g c =
    let a = c.args.outlet.now in
    let b = c.put_private.new.outlet in
    let start = Written-from (passing g.W.Write.contents) a _ _ (lines_are (eexec (flat_map piece_text c.args.pieces.now))) in
    let lined = Written-step (passing g.W.Write.contents) a a b _ _ _ start (rw c.new.ensures at c.in_ok-put_private.ensures) in
    Written-last (passing g.W.Write.contents) c.put.result a b c.put.new.self _ _ lined c.put.ensures
