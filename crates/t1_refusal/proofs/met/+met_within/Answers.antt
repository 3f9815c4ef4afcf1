use Rattle.std.proofs.Common.{◌≡◌, option_map, subst}
use Rattle.std.specs.Prelude.{IfOk}
use Rattle.t1_run.specs.Run.{font}
use Rattle.t1_refusal.specs.Bodies.{seen_of}
use Rattle.t1_refusal.proofs.MetLaws.{met_in_accent}
use Rattle.t1_refusal.proofs.met.+met_within.Goals as goal

pub returns : goal.returns
returns g t c =
    let m = font (g.B.Bodies.subrs c.args.bodies.now) (g.B.Bodies.glyphs c.args.bodies.now) in
    let same = met_in_accent m c.args.depth c.args.name.now c.in_ok-met.field-0 c.in_ok-parts.field-0 c.in-Some-2.parts c.in_ok-met-2.field-0 c.as_slice.result.now c.as_slice-2.result.now
    c.in_ok-met.ensures c.in_default.is c.if-depth-eq0.false c.in_ok-parts.ensures c.in-Some-2.is c.in_ok-met-2.ensures c.in_default-3.is c.as_slice.ensures c.as_slice-2.ensures in
    subst (λ met'. IfOk c.met_within-2.result (λ met. option_map seen_of met ≡ met')) same c.met_within-2.ensures
