use Rattle.std.proofs.Common.{ap, ◌∙◌}
use Rattle.clap.specs.Words.{rule_of}
use Rattle.clap.specs.declared.builder.action.ArgAction.TheVariants.{Append}
use Rattle.t1_command_line.proofs.Rules.{is_global, when_required, with_action}
use Rattle.t1_command_line.proofs.command_line.sources.Goals as goal

pub returns-clause-rule : goal.returns-clause-rule
returns-clause-rule c = ap rule_of c.action.ensures ∙ ap (with_action Append) (ap rule_of c.required.ensures ∙ ap when_required (ap rule_of c.help.ensures ∙ c.new.ensures.rule))

pub returns-clause-local : goal.returns-clause-local
returns-clause-local c = ap is_global c.action.ensures ∙ ap is_global c.required.ensures ∙ ap is_global c.help.ensures ∙ c.new.ensures.optional.1
