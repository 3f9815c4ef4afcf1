use Rattle.std.proofs.Common.{length, not, ap, ◌∙◌, arith}
use Rattle.std.specs.Option.{unwrap_or}
use Rattle.std.proofs.lemmas.List.Sums.{prefix_len-le-length}
use Rattle.t1_parts.specs.Encoding.{opens_encoding}
use Rattle.t1_parts.proofs.PlaceLaws.{or_length}
use Rattle.t1_parts.proofs.encoding.encoding_start.Goals as goal

pub returns-clause-within : goal.returns-clause-within
returns-clause-within c =
    let place = c.unwrap_or.ensures ∙ ap (λ r. unwrap_or r (length c.args.clear.now)) c.encoding_at.ensures.value ∙ or_length opens_encoding c.args.clear.now in
    let most = prefix_len-le-length (λ l. not (opens_encoding l)) c.args.clear.now in
    omega (arith, place, most)

pub returns-clause-value : goal.returns-clause-value
returns-clause-value c =
    c.unwrap_or.ensures ∙ ap (λ r. unwrap_or r (length c.args.clear.now)) c.encoding_at.ensures.value ∙ or_length opens_encoding c.args.clear.now
