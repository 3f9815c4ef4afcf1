use Rattle.std.proofs.Common.{refl}
use Rattle.std.proofs.lemmas.Result.{err_from_is_err_and}
use Rattle.t1_session.proofs.Delivering.{delivers_failure}
use Rattle.t1_session.proofs.measuring.write_metrics.Goals as goal

pub returns-in_err-write_source_afm : goal.returns-in_err-write_source_afm
returns-in_err-write_source_afm g c =
    let p = err_from_is_err_and c.from_residual-in_err-write_source_afm.result c.from_residual-in_err-write_source_afm.ensures.1 in
    rw (p.1, p.2) (delivers_failure g.W.Write.contents c.args.out.now c.write_source_afm.new.out _ _ (rw c.in_ok-glyphs.ensures refl) c.in_err-write_source_afm.field-0.0 c.in_err-write_source_afm.ensures)
