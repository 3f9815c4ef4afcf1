use Rattle.std.proofs.Common.{refl, append-nil}
use Rattle.std.proofs.lemmas.Result.{err_from_is_err_and}
use Rattle.t1_code.proofs.outlet.Outlet.send.Goals as goal

pub returns-in_err-put_all-clause-text : goal.returns-in_err-put_all-clause-text
returns-in_err-put_all-clause-text g c =
    let p = err_from_is_err_and c.from_residual.result c.from_residual.ensures.1 in
    rw p.1 (record { same = refl; writes = rw append-nil (rw c.as_slice.ensures at c.in_err-put_all.ensures.text) })
