use Rattle.std.proofs.Common.{not, ◌==◌, ◌∙◌, arith}
use Rattle.std.proofs.lemmas.List.Sums.{prefix_len-le-length}
use Rattle.memchr.specs.Find.{is_byte}
use Rattle.t1_text.proofs.ScanLaws.{first_place}
use Rattle.t1_parts.proofs.body.place_or_len.Goals as goal

pub returns-clause-within : goal.returns-clause-within
returns-clause-within c =
    let place = c.unwrap_or.ensures ∙ first_place (is_byte c.args.byte) c.args.line.now c.memchr.result c.memchr.ensures in
    let most = prefix_len-le-length (λ x. not (x == c.args.byte)) c.args.line.now in
    omega (arith, place, most)

pub returns-clause-value : goal.returns-clause-value
returns-clause-value c = c.unwrap_or.ensures ∙ first_place (is_byte c.args.byte) c.args.line.now c.memchr.result c.memchr.ensures
