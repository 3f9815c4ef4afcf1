use Rattle.std.proofs.Common.{ap₂, ◌≡◌, ◌∙◌}
use Rattle.std.proofs.lemmas.Result.{IfOk-weaker}
use Rattle.clap.specs.Words.{app_of, with_rule}
use Rattle.t1_command_line.proofs.command_line.with_arg.Goals as goal

pub returns : goal.returns
returns c = λ before rule command is local.
    let first : app_of c.in_ok-command.field-0 ≡ before = rw c.in_ok-command.was at command in
    IfOk-weaker c.arg.result _ _ (λ r h. h.shape local ∙ ap₂ with_rule first is) c.arg.ensures
