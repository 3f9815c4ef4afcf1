use Rattle.std.proofs.Common.{ap, sym, ◌∙◌, arith}
use Rattle.std.proofs.lemmas.Int.{ints}
use Rattle.t1_frac.specs.Fraction.{Fraction, floor_of, ceiling_of}
use Rattle.t1_afm.specs.Points.{cubic_at}
use Rattle.t1_afm.specs.Bounds.{fraction_of}
use Rattle.t1_afm.proofs.Between.{same_span}
use Rattle.t1_afm.proofs.Extremes.{extremes_first, extremes_next, rounded}
use Rattle.t1_afm.proofs.Spans.{Spans-all}
use Rattle.t1_afm.proofs.cubic.Cubic.sampled_span.Goals as goal

pub loop-k-init : goal.loop-k-init
loop-k-init c =
    let p = c.args.self.now in
    extremes_first (cubic_at p.start p.first p.second p.end) c.value_at-least.result c.value_at-least.ensures.value c.value_at-least.ensures.range

pub loop-k-preserved : goal.loop-k-preserved
loop-k-preserved c =
    let p = c.args.self.now in
    let next = c.value_at-next.ensures in
    let least = c.lesser-least.ensures in
    let greatest = c.greater-greatest.ensures in
    extremes_next (cubic_at p.start p.first p.second p.end) _ c.loop-k.k c.loop-k.least c.loop-k.greatest c.value_at-next.result _ _ _ (omega arith)
    (ap (λ (a : Fraction). a.den) next.value) next.value next.range least.num least.den greatest.num greatest.den c.loop-k.invariant

pub lesser-least-requires : goal.lesser-least-requires
lesser-least-requires c = c.loop-k.invariant.low_den ∙ sym (ap (λ (a : Fraction). a.den) c.value_at-next.ensures.value)

pub greater-greatest-requires : goal.greater-greatest-requires
greater-greatest-requires c = c.loop-k.invariant.high_den ∙ sym (ap (λ (a : Fraction). a.den) c.value_at-next.ensures.value)

pub floor-low-requires : goal.floor-low-requires
floor-low-requires c = c.loop-k.invariant.low

pub ceil-high-requires : goal.ceil-high-requires
ceil-high-requires c = c.loop-k.invariant.high

pub returns : goal.returns
returns c =
    let p = c.args.self.now in
    same_span _ (floor_of (fraction_of c.loop-k.least)) _ (ceiling_of (fraction_of c.loop-k.greatest))
    (omega (arith, ints, c.floor-low.ensures.value, c.floor-low.ensures.size)) (omega (arith, ints, c.ceil-high.ensures, c.ceil-high.type_inv))
    ∙ Spans-all (cubic_at p.start p.first p.second p.end) c.loop-k.k (rounded c.loop-k.least c.loop-k.greatest) _ (omega arith) c.loop-k.invariant.spans
