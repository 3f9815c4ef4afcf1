use Rattle.std.proofs.Common.{◌∙◌, ap, arith}
use Rattle.t1_frac.specs.Fraction.{floor_of, ceiling_of}
use Rattle.t1_afm.specs.Bounds.{over_cube_and}
use Rattle.t1_afm.proofs.Between.{same_span}
use Rattle.t1_afm.proofs.Denominators.{span_of_common}
use Rattle.t1_afm.proofs.Longs.{read_int, read_small}
use Rattle.t1_afm.proofs.common.CommonCubic.span.Goals as goal

pub returns : goal.returns
returns c =
    let p = c.args.self.now in
    let sums = c.sums-sums in
    let least = read_small sums.result.least (omega (arith, sums.ensures.least_size)) in
    let greatest = read_small sums.result.greatest (omega (arith, sums.ensures.greatest_size)) in
    same_span _ _ _ _
    (read_int c.floor_over.result c.floor_over.type_inv ∙ c.floor_over.ensures.value ∙ ap (λ x. floor_of (over_cube_and p.den x)) least)
    (read_int c.ceil_over.result c.ceil_over.type_inv ∙ c.ceil_over.ensures ∙ ap (λ x. ceiling_of (over_cube_and p.den x)) greatest)
    ∙ span_of_common p _ _ sums.ensures.least sums.ensures.greatest
