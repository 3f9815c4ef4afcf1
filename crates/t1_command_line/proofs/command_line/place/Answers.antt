use Rattle.std.proofs.Common.{ap, ◌∙◌}
use Rattle.clap.specs.Words.{rule_of}
use Rattle.clap.specs.declared.builder.action.ArgAction.TheVariants.{Set}
use Rattle.t1_command_line.proofs.Rules.{is_global, with_action, with_names}
use Rattle.t1_command_line.proofs.command_line.place.Goals as goal

pub returns-clause-rule : goal.returns-clause-rule
returns-clause-rule c = ap rule_of c.action.ensures ∙ ap (with_action Set) (ap rule_of c.value_names.ensures ∙ ap (with_names 2) (ap rule_of c.help.ensures ∙ c.new.ensures.rule))

pub returns-clause-local : goal.returns-clause-local
returns-clause-local c = ap is_global c.action.ensures ∙ ap is_global c.value_names.ensures ∙ ap is_global c.help.ensures ∙ c.new.ensures.optional.1
