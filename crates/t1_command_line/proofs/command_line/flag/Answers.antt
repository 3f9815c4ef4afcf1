use Rattle.std.proofs.Common.{ap, ◌∙◌}
use Rattle.clap.specs.Words.{rule_of}
use Rattle.clap.specs.declared.builder.action.ArgAction.TheVariants.{SetTrue}
use Rattle.t1_command_line.proofs.Rules.{is_global, with_action, with_long}
use Rattle.t1_command_line.proofs.command_line.flag.Goals as goal

pub returns-clause-rule : goal.returns-clause-rule
returns-clause-rule c = ap rule_of c.action.ensures ∙ ap (with_action SetTrue) (ap rule_of c.help.ensures ∙ ap rule_of c.long.ensures ∙ ap (with_long c.args.name.now) c.new.ensures.rule)

pub returns-clause-local : goal.returns-clause-local
returns-clause-local c = ap is_global c.action.ensures ∙ ap is_global c.help.ensures ∙ ap is_global c.long.ensures ∙ c.new.ensures.optional.1
