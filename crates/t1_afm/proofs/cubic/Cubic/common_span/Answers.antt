use Rattle.std.proofs.Common.{◌∙◌}
use Rattle.t1_afm.proofs.Denominators.{span_of_fractions}
use Rattle.t1_afm.proofs.cubic.Cubic.common_span.Goals as goal

pub returns : goal.returns
returns c =
    let p = c.args.self.now in
    c.span.ensures ∙ span_of_fractions _ _ _ _ c.in-Some.cubic p.start_within p.first_within p.second_within p.end_within c.in-Some.ensures
