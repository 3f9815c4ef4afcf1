use Rattle.std.proofs.Common.{◌∙◌, ℕ, List, subst}
use Rattle.t1_frac.specs.Words.{words}
use Rattle.t1_text.specs.Lines.{joined, lines}
use Rattle.t1_commands.specs.Commands.{body_command}
use Rattle.t1_commands.specs.MadeCommands.{Makes}
use Rattle.t1_calls.specs.Talking.{Spoken}
use Rattle.t1_calls.specs.Performing.{IsAnswerTo}
use Rattle.t1_calls.proofs.PerformingLaws.{spoken_with}
use Rattle.t1_calls.proofs.talk.Talk.perform_with.Goals as goal

pub returns : goal.returns
returns c =
    let line = c.args.line.now in let body = c.args.body.now in
    let made = subst (λ (b : List ℕ). Makes c.body_command-made.result (body_command (words line) b)) (c.new.ensures ∙ c.in-Ok.ensures) c.body_command-made.ensures in
    let step = c.answer_to.ensures (body_command (words line) (joined (lines body))) made in (
      c.requires.call,
      spoken_with c.args.self.now.state c.answer_to.new.session.state line body c.answer_to.result c.requires.takes c.requires.call
          (subst (λ (s : Spoken). IsAnswerTo s.state c.answer_to.new.session.state (body_command (words line) (joined (lines body))) c.answer_to.result) c.self.view_is step),
    )
