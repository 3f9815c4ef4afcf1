use Rattle.std.proofs.Common.{subst, ◌∙◌}
use Rattle.std.specs.Int.{int_min, int_max}
use Rattle.t1_run.specs.Composite.{IsWithin}
use Rattle.t1_extent.specs.Extremes.{IsWholeSegment}
use Rattle.t1_extent.proofs.Bending.{same_reach, with_bend}
use Rattle.t1_extent.proofs.Siding.{num_read}
use Rattle.t1_extent.proofs.drawn.with_bend.Goals as goal

pub returns-in-Curve : goal.returns-in-Curve
returns-in-Curve c =
    let is = c.in-Curve.is in
    let sides = c.args.sides.now in
    let within = subst IsWithin is c.requires.within in
    let whole = subst IsWholeSegment is c.requires.whole in
    let x = c.with_cubic-across.ensures in
    let y = c.with_cubic-upward.ensures in
    let p = num_read c.in-Curve.a.x c.num.result c.num.ensures whole.0.x within.0.x in
    let q = num_read c.in-Curve.b.x c.num-in-Curve.result c.num-in-Curve.ensures whole.1.x within.1.x in
    let r = num_read c.in-Curve.c.x c.num-in-Curve-2.result c.num-in-Curve-2.ensures whole.2.x within.2.x in
    let s = num_read c.in-Curve.d.x c.num-in-Curve-3.result c.num-in-Curve-3.ensures whole.3.x within.3.x in
    let t = num_read c.in-Curve.a.y c.num-in-Curve-4.result c.num-in-Curve-4.ensures whole.0.y within.0.y in
    let u = num_read c.in-Curve.b.y c.num-in-Curve-5.result c.num-in-Curve-5.ensures whole.1.y within.1.y in
    let v = num_read c.in-Curve.c.y c.num-in-Curve-6.result c.num-in-Curve-6.ensures whole.2.y within.2.y in
    let w = num_read c.in-Curve.d.y c.num-in-Curve-7.result c.num-in-Curve-7.ensures whole.3.y within.3.y in
    rw is
    (with_bend c.in-Curve.a c.in-Curve.b c.in-Curve.c c.in-Curve.d sides.left sides.bottom sides.right sides.top _ _ _ _ whole.0 whole.1 whole.2 whole.3
    (c.of_axes.ensures.left ∙ same_reach int_min _ _ sides.left _ _ _ _ _ _ _ _ x.low c.horizontal.ensures.low p q r s)
    (c.of_axes.ensures.bottom ∙ same_reach int_min _ _ sides.bottom _ _ _ _ _ _ _ _ y.low c.vertical.ensures.low t u v w)
    (c.of_axes.ensures.right ∙ same_reach int_max _ _ sides.right _ _ _ _ _ _ _ _ x.high c.horizontal.ensures.high p q r s)
    (c.of_axes.ensures.top ∙ same_reach int_max _ _ sides.top _ _ _ _ _ _ _ _ y.high c.vertical.ensures.high t u v w))
