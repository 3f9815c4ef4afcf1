use Rattle.std.proofs.Common.{arith, ◌∙◌, sym}
use Rattle.std.proofs.lemmas.Int.{ints}
use Rattle.t1_afm.proofs.Between.{same_span}
use Rattle.t1_afm.proofs.Ceilings.{ceiling_next}
use Rattle.t1_afm.proofs.span.coordinate_span.Goals as goal

pub returns : goal.returns
returns c =
    let next = ceiling_next c.args.a.now c.is_whole.ensures.terms (sym c.is_whole.ensures.value ∙ c.if-is_whole.false) in
    let low = c.rounded_down-low.ensures in
    same_span _ _ _ _ (omega (arith, ints, low.value, low.size)) (omega (arith, ints, low.value, low.size, next))
