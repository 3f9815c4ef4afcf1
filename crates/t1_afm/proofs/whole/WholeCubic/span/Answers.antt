use Rattle.std.proofs.Common.{◌∙◌, ap, arith}
use Rattle.t1_frac.specs.Fraction.{floor_of, ceiling_of}
use Rattle.t1_afm.specs.Bounds.{over_cube}
use Rattle.t1_afm.proofs.Between.{same_span}
use Rattle.t1_afm.proofs.Longs.{read_int, read_small}
use Rattle.t1_afm.proofs.whole.WholeCubic.span.Goals as goal

pub returns : goal.returns
returns c =
    let sums = c.sums-sums in
    let least = read_small sums.result.least (omega (arith, sums.ensures.least_size)) in
    let greatest = read_small sums.result.greatest (omega (arith, sums.ensures.greatest_size)) in
    same_span _ _ _ _
    (read_int c.floor.result c.floor.type_inv ∙ c.floor.ensures.value ∙ ap (λ x. floor_of (over_cube x)) least)
    (read_int c.ceil.result c.ceil.type_inv ∙ c.ceil.ensures ∙ ap (λ x. ceiling_of (over_cube x)) greatest)
    ∙ sums.ensures.span
