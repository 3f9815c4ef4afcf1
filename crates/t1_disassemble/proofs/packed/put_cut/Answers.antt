use Rattle.std.proofs.Common.{◌++◌, take, refl}
use Rattle.std.proofs.lemmas.Result.{err_from_is_err_and}
use Rattle.t1_code.proofs.Writing.{passing, Written-from, Written-step, Written-fails, Written-last}
use Rattle.t1_disassemble.specs.SoundWords.{code_lines}
use Rattle.t1_disassemble.proofs.packed.put_cut.Goals as goal

pub returns-in_err-put : goal.returns-in_err-put
returns-in_err-put g c =
    let a = c.args.outlet.now in
    let start = Written-from (passing g.W.Write.contents) a (take c.args.cut.now.lines c.args.lines.now ++ code_lines (take c.args.cut.now.code c.args.codes.now)) (take c.args.cut.now.lines c.args.lines.now ++ code_lines (take c.args.cut.now.code c.args.codes.now)) refl in
    rw (err_from_is_err_and c.from_residual.result c.from_residual.ensures.1).1
    (Written-fails (passing g.W.Write.contents) a a c.put.new.self _ _ _ start (rw c.up_to.ensures at c.in_err-put.ensures))

pub returns : goal.returns
returns g c =
    let a = c.args.outlet.now in
    let b = c.put.new.self in
    let start = Written-from (passing g.W.Write.contents) a (take c.args.cut.now.lines c.args.lines.now ++ code_lines (take c.args.cut.now.code c.args.codes.now)) (take c.args.cut.now.lines c.args.lines.now ++ code_lines (take c.args.cut.now.code c.args.codes.now)) refl in
    Written-last (passing g.W.Write.contents) c.put_words.result a b c.put_words.new.outlet _ _
    (Written-step (passing g.W.Write.contents) a a b _ _ _ start (rw c.up_to.ensures at c.in_ok-put.ensures)) (rw c.up_to-2.ensures at c.put_words.ensures)
