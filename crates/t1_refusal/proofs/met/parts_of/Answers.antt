use Rattle.t1_run.specs.Run.{font}
use Rattle.t1_refusal.proofs.MetLaws.{no_parts}
use Rattle.t1_refusal.proofs.met.parts_of.Goals as goal

pub returns-in_default : goal.returns-in_default
returns-in_default g c = no_parts (font (g.B.Bodies.subrs c.args.bodies.now) (g.B.Bodies.glyphs c.args.bodies.now)) c.args.name.now c.in_default.ensures
