use Rattle.std.proofs.Common.{◌∙◌, ap, arith}
use Rattle.t1_source.specs.Codes.{name_at}
use Rattle.t1_session.specs.Queries.{code_line}
use Rattle.t1_session.proofs.QueryLaws.{code_more, codes_all}
use Rattle.t1_session.proofs.encoding.encoding_text.Goals as goal

pub loop-code-preserved : goal.loop-code-preserved
loop-code-preserved c =
    let code = c.loop-code.code in
    c.in_ok-push_code.ensures
    ∙ code_more c.args.source.now c.loop-code.text.items _ code c.loop-code.invariant
    (ap (λ at. code_line code (name_at c.names_by_code-names.result at)) c.from.ensures
    ∙ ap (code_line code) (c.names_by_code-names.ensures code (omega arith)))

pub returns : goal.returns
returns c = codes_all c.args.source.now c.loop-code.text.items c.loop-code.code (omega arith) c.loop-code.invariant
