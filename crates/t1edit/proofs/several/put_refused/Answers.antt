use Rattle.std.proofs.lemmas.Result.{err_from_is_err_and}
use Rattle.t1edit.specs.FileErrors.{file_error_text}
use Rattle.t1edit.proofs.Lines.{after_name, name_fails}
use Rattle.t1edit.proofs.several.put_refused.Goals as goal

pub returns-in_err-put_all : goal.returns-in_err-put_all
returns-in_err-put_all g c =
    rw (err_from_is_err_and c.from_residual.result c.from_residual.ensures.1).1
    (name_fails g.W.Write.contents c.args.writer.now c.put_all.new.self c.args.path.now (file_error_text c.args.error.now) (rw c.as_bytes.ensures.value at c.in_err-put_all.ensures.text))

pub returns : goal.returns
returns g c =
    after_name g.W.Write.contents c.args.writer.now c.put_all.new.self c.put_file_error.new.writer c.args.path.now (file_error_text c.args.error.now) c.put_file_error.result
    (rw c.as_bytes.ensures.value at c.in_ok-put_all.ensures.text)
    c.put_file_error.ensures
