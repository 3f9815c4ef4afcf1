use Rattle.std.proofs.lemmas.Result.{err_from_is_err_and}
use Rattle.t1_font.proofs.LengthLaws.{length_faulty}
use Rattle.t1_font.proofs.lengths.check_length.Goals as goal

pub returns-in_err-len-clause-refused : goal.returns-in_err-len-clause-refused
returns-in_err-len-clause-refused c =
    let p = err_from_is_err_and c.from_residual.result c.from_residual.ensures.1 in
    rw (p.1, p.2) (length_faulty c.args.source.now c.in_err-len.field-0.0 (rw (c.lead.ensures, c.operator.ensures, c.items.ensures) at c.in_err-len.ensures))
