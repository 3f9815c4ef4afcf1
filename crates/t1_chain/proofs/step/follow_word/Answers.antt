use Rattle.std.proofs.Common.{◌∙◌, ap, sym}
use Rattle.t1_run.specs.Machine.{state_of}
use Rattle.t1_run.specs.Run.{font}
use Rattle.t1_chain.specs.Machine.{asking}
use Rattle.t1_chain.proofs.FollowingLaws.{acts-refused}
use Rattle.t1_chain.proofs.step.follow_word.Goals as goal

pub returns-in-Some-clause-acts : goal.returns-in-Some-clause-acts
returns-in-Some-clause-acts g c =
    let m = font (g.B.Bodies.subrs c.args.bodies.now) (g.B.Bodies.glyphs c.args.bodies.now) in
    let before = state_of c.args.state.now in
    let after = state_of c.take_step.new.state in
    acts-refused m c.args.levels c.args.word c.args.command before after c.note.new.noted c.in-Ok-Some.control c.in-Some.code c.in_ok-failure.failure
    (c.in-Ok-Some.ensures ∙ ap (λ o. asking o after) c.in-Ok-Some.field-0-is)
    (sym c.in_ok-code.ensures ∙ c.in-Some.is)
    c.in_ok-note.ensures
    c.in_ok-failure.ensures
