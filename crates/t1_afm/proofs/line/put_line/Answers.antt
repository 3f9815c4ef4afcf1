use Rattle.std.proofs.Common.{◌++◌}
use Rattle.std.proofs.lemmas.Result.{err_from_is_err_and}
use Rattle.t1_code.proofs.Writing.{passing, Written-none, Written-step, Written-fails, Written-last}
use Rattle.t1_afm.specs.Afm.{rest_text}
use Rattle.t1_afm.specs.Lines.{line_words}
use Rattle.t1_afm.proofs.line.put_line.Goals as goal

pub returns-in_err-put : goal.returns-in_err-put
returns-in_err-put g c =
    let a = c.args.outlet.now in
    let rest = rest_text (line_words c.args.words.now) in
    rw (err_from_is_err_and c.from_residual.result c.from_residual.ensures.1).1 (Written-fails (passing g.W.Write.contents) a a c.put.new.self _ c.args.key.now rest (Written-none (passing g.W.Write.contents) a (c.args.key.now ++ rest)) c.in_err-put.ensures)

pub returns : goal.returns
returns g c =
    let a = c.args.outlet.now in
    let b = c.put.new.self in
    let rest = rest_text (line_words c.args.words.now) in
    let keyed = Written-step (passing g.W.Write.contents) a a b _ c.args.key.now rest (Written-none (passing g.W.Write.contents) a (c.args.key.now ++ rest)) c.in_ok-put.ensures in
    Written-last (passing g.W.Write.contents) c.put_rest.result a b c.put_rest.new.outlet _ rest keyed c.put_rest.ensures
