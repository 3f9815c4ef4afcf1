use Rattle.std.proofs.Common.{ap, ◌∙◌}
use Rattle.clap.specs.Simple.{app_of_fields}
use Rattle.t1_command_line.proofs.command_line.named.Goals as goal

pub returns : goal.returns
returns c =
    ap app_of_fields c.after_long_help.ensures ∙ ap app_of_fields c.before_long_help.ensures ∙ ap app_of_fields c.about.ensures ∙ c.new.ensures.app
