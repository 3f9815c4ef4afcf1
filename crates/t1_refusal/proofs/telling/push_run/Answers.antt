use Rattle.std.proofs.Common.{◌≡◌, ◌++◌, subst}
use Rattle.std.specs.Prelude.{OnOk}
use Rattle.t1_run.specs.Run.{font}
use Rattle.t1_refusal.proofs.TellingLaws.{added_none, run_met, run_not_met}
use Rattle.t1_refusal.proofs.telling.push_run.Goals as goal

pub returns-in-Some : goal.returns-in-Some
returns-in-Some g c =
    let m = font (g.B.Bodies.subrs c.args.bodies.now) (g.B.Bodies.glyphs c.args.bodies.now) in
    let met = run_met c.args.items.now c.args.name.now m c.in_ok-met.field-0 c.requires.0 c.requires.1 c.in_ok-met.ensures c.in-Some.met c.in-Some.is in
    subst (λ more. OnOk c.push_met.result (c.push_met.new.text.items ≡ c.args.text.now.items ++ more)) met c.push_met.ensures

pub returns-in-None : goal.returns-in-None
returns-in-None g c =
    let m = font (g.B.Bodies.subrs c.args.bodies.now) (g.B.Bodies.glyphs c.args.bodies.now) in
    added_none c.args.text.now.items _
    (run_not_met c.args.items.now c.args.name.now m c.in_ok-met.field-0 c.requires.0 c.requires.1 c.in_ok-met.ensures c.in-None.is)
