use Rattle.std.proofs.Common.{ap, true, ◌∙◌}
use Rattle.clap.specs.Words.{App}
use Rattle.clap.specs.Simple.{app_of_fields}
use Rattle.t1_command_line.proofs.command_line.program_alone.Goals as goal

abbrev with_version : App → App
with_version a = record a { top = record a.top { has_version = true } }

abbrev when_required : App → App
when_required a = record a { top = record a.top { subcommand_required = true } }

pub returns : goal.returns
returns c =
    ap app_of_fields c.subcommand_required.ensures
    ∙ ap when_required (ap app_of_fields c.after_help.ensures ∙ ap app_of_fields c.about.ensures ∙ ap app_of_fields c.version.ensures ∙ ap with_version c.new.ensures.app)
