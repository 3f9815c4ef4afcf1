use Rattle.std.proofs.Common.{length, nat_lt, ap, ◌∙◌}
use Rattle.t1_parts.specs.Encoding.{ends_array}
use Rattle.t1_parts.proofs.PlaceLaws.{any_below}
use Rattle.t1_parts.proofs.encoding.has_end.Goals as goal

pub returns : goal.returns
returns c = ap (λ n. nat_lt n (length c.args.later.now)) c.array_end.ensures.value ∙ any_below ends_array c.args.later.now
