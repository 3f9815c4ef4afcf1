use Rattle.std.proofs.Common.{refl}
use Rattle.std.proofs.lemmas.Result.{err_from_is_err_and}
use Rattle.t1_afm.specs.Afm.{afm}
use Rattle.t1_afm.proofs.afm.write_afm.Goals as goal

pub returns-in_err-send_file-clause-prints : goal.returns-in_err-send_file-clause-prints
returns-in_err-send_file-clause-prints g c =
    let p = err_from_is_err_and c.from_residual.result c.from_residual.ensures.1 in
    rw (p.1, p.2) (afm c.args.metrics.now, refl, c.in_err-send_file.ensures)

pub returns-clause-prints : goal.returns-clause-prints
returns-clause-prints g c = (afm c.args.metrics.now, refl, c.in_ok-send_file.ensures)
