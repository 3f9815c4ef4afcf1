use Rattle.std.proofs.Common.{ℕ, Err, subst}
use Rattle.std.proofs.lemmas.Result.{err_from_is_err_and}
use Rattle.t1_code.specs.Parts.{Prints}
use Rattle.t1_font.specs.Assembly.{source_file}
use Rattle.t1_session.proofs.Delivering.{delivers_failure, file_read}
use Rattle.t1_session.proofs.assembling.assemble_blocks.Goals as goal

pub returns-in_err-write_source_pfb : goal.returns-in_err-write_source_pfb
returns-in_err-write_source_pfb g c =
    let p = err_from_is_err_and c.from_residual-in_err-write_source_pfb.result c.from_residual-in_err-write_source_pfb.ensures.1 in
    let error = c.in_err-write_source_pfb.field-0.0 in
    let wrote = subst (λ (n : ℕ). Prints {T = Unit {0}} g.W.Write.contents c.args.out.now c.write_source_pfb.new.out (source_file n c.in_ok-source.source) (Err error)) c.new-size.ensures c.in_err-write_source_pfb.ensures in
    rw (p.1, p.2) (delivers_failure g.W.Write.contents c.args.out.now c.write_source_pfb.new.out _ _ (file_read c.args.size c.args.source.now c.in_ok-source.source c.in_ok-source.ensures) error wrote)
