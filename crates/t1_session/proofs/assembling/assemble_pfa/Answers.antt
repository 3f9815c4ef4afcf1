use Rattle.std.proofs.lemmas.Result.{err_from_is_err_and}
use Rattle.t1_session.proofs.Delivering.{delivers_failure, pfa_read}
use Rattle.t1_session.proofs.assembling.assemble_pfa.Goals as goal

pub returns-in_err-write_source_pfa : goal.returns-in_err-write_source_pfa
returns-in_err-write_source_pfa g c =
    let p = err_from_is_err_and c.from_residual-in_err-write_source_pfa.result c.from_residual-in_err-write_source_pfa.ensures.1 in
    rw (p.1, p.2) (delivers_failure g.W.Write.contents c.args.out.now c.write_source_pfa.new.out _ _ (pfa_read c.args.source.now c.in_ok-source.source c.in_ok-source.ensures) c.in_err-write_source_pfa.field-0.0 c.in_err-write_source_pfa.ensures)
