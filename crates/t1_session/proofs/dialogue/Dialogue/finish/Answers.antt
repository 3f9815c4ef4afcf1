use Rattle.std.proofs.Common.{◌≡◌, ◌∙◌, sym, Some}
use Rattle.t1_session.proofs.dialogue.Dialogue.finish.Goals as goal

pub returns-in-None : goal.returns-in-None
returns-in-None g c =
    let is : c.args.self.now.opening ≡ c.take.new.self = sym c.take.ensures.value ∙ c.in-None.is ∙ sym c.take.ensures.after in
    rw is c.finish_command_line.ensures

pub returns-in-Some : goal.returns-in-Some
returns-in-Some g c =
    let is : c.args.self.now.opening ≡ Some c.in-Some.opening = sym c.take.ensures.value ∙ c.in-Some.is in
    rw is c.finish_body.ensures
